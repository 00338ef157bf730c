use Rattle.std.proofs.Common.{take}
use Rattle.product_op.proofs.NextRowLemmas.{AreWritten}
use Rattle.product_op.proofs.next_table.write_targets.Given as goal

abbrev pub invariant-loop-transition : goal.invariant-loop-transition
invariant-loop-transition l = AreWritten (take l.transition-index l.transitions) l.fn.next l.next
