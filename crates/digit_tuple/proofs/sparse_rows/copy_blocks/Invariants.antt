use Rattle.std.proofs.Common.{take}
use Rattle.digit_tuple.specs.SparseRows.{HaveSameRows}
use Rattle.digit_tuple.proofs.sparse_rows.copy_blocks.Given as goal

abbrev pub invariant-loop-block : goal.invariant-loop-block
invariant-loop-block l = HaveSameRows (take l.block-index l.blocks) l.copied.items
