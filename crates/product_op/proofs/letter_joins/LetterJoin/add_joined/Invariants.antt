use Rattle.product_op.proofs.LetterJoinLemmas.{AreSums}
use Rattle.product_op.proofs.letter_joins.LetterJoin.add_joined.Given as goal

abbrev pub invariant-loop-transition : goal.invariant-loop-transition
invariant-loop-transition l = AreSums l.letters l.own l.self.second.items l.second l.transition-index l.fn.found.items l.found.items
