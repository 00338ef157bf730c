use Rattle.std.proofs.Common.{◌≡◌}
use Rattle.digit_tuple.proofs.LetterTransitions.{key_transitions_to}
use Rattle.number_order.specs.PairKeys.{next_pair}
use Rattle.number_order.proofs.pairs.PairsKeyGraph.transitions.Given as goal

abbrev pub invariant-loop-letter : goal.invariant-loop-letter
invariant-loop-letter l = l.out ≡ key_transitions_to (next_pair l.self.direction l.self.language.now l.self.digits l.key) 0 l.letter
