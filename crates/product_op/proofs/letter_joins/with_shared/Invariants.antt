use Rattle.std.proofs.Common.{◌≡◌, length}
use Rattle.product_op.proofs.letter_joins.with_shared.Given as goal

abbrev pub invariant-loop-letter : goal.invariant-loop-letter
invariant-loop-letter l = length l.all.items ≡ l.letter-index
