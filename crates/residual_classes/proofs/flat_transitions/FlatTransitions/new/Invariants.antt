use Rattle.std.proofs.Common.{◌≡◌, ◌*◌, None}
use Rattle.digit_tuple.specs.Deterministic.{letters_of, states_of}
use Rattle.digit_tuple.specs.TransitionCounts.{transition_count}
use Rattle.residual_classes.specs.TransitionLetters.{listed}
use Rattle.residual_classes.specs.FlatTransitions.{AreLaidOut}
use Rattle.residual_classes.proofs.flat_transitions.FlatTransitions.new.Given as goal

abbrev pub invariant-loop-state : goal.invariant-loop-state
invariant-loop-state l = record {
  laid : AreLaidOut l.dfa l.starts.items (listed l.letters) l.targets.items l.state;
  full : listed l.letters ≡ None → transition_count l.dfa ≡ states_of l.dfa * letters_of l.dfa;
}
