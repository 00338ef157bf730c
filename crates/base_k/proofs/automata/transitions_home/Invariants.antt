use Rattle.std.proofs.Common.{Some}
use Rattle.digit_tuple.specs.TransitionsBy.{AreTransitionsBy}
use Rattle.base_k.proofs.automata.transitions_home.Given as goal

abbrev pub invariant-loop-letter : goal.invariant-loop-letter
invariant-loop-letter l = AreTransitionsBy (λ _. Some 0) l.letter 1 l.transitions.items
