use Rattle.product_op.proofs.NextRowLemmas.{AreRowsTo}
use Rattle.product_op.proofs.next_row.next_rows.Given as goal

abbrev pub invariant-loop-place : goal.invariant-loop-place
invariant-loop-place l = AreRowsTo l.tables l.key l.rows.items l.place
