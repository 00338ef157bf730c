use Rattle.std.proofs.Common.{◌≡◌, take}
use Rattle.std.specs.List.{sum_by, flat_map}
use Rattle.digit_tuple.specs.CellCounts.{cells_of}
use Rattle.digit_tuple.specs.Decisions.{rows_in}
use Rattle.digit_tuple.proofs.sparse_rows.count_cells.Given as goal

abbrev pub invariant-loop-block : goal.invariant-loop-block
invariant-loop-block l = l.cells ≡ sum_by (cells_of l.tracks) (flat_map rows_in (take l.block-index l.blocks))
