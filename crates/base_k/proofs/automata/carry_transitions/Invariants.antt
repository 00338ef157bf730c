use Rattle.digit_tuple.specs.TransitionsBy.{AreTransitionsBy}
use Rattle.base_k.specs.Carries.{carry_after}
use Rattle.base_k.proofs.automata.carry_transitions.Given as goal

abbrev pub invariant-loop-letter : goal.invariant-loop-letter
invariant-loop-letter l = AreTransitionsBy (carry_after l.direction l.k l.carry) l.letter 2 l.transitions.items
