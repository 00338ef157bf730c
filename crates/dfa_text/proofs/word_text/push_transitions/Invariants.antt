use Rattle.std.proofs.Common.{◌≡◌, ◌++◌, take}
use Rattle.std.specs.List.{flat_map}
use Rattle.digit_tuple.specs.Headers.{sets_of}
use Rattle.dfa_text.specs.RelationText.{transition_text}
use Rattle.dfa_text.proofs.word_text.push_transitions.Given as goal

abbrev pub invariant-loop-transition : goal.invariant-loop-transition
invariant-loop-transition l = l.out.items ≡ l.initial.out.items ++ flat_map (transition_text (sets_of l.header)) (take l.transition-index l.transitions)
