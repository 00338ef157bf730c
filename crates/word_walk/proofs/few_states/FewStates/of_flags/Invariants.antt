use Rattle.std.proofs.Common.{◌≡◌}
use Rattle.word_walk.proofs.FewStateLemmas.{states_with}
use Rattle.word_walk.proofs.few_states.FewStates.of_flags.Given as goal

abbrev pub invariant-loop-state : goal.invariant-loop-state
invariant-loop-state l = l.states.items ≡ states_with l.state l.flags
