use Rattle.std.proofs.Common.{◌≡◌, take}
use Rattle.std.specs.List.{sum_by}
use Rattle.digit_tuple.specs.CellCounts.{cells_of}
use Rattle.digit_tuple.specs.Decisions.{rows_in}
use Rattle.digit_tuple.proofs.block_cells.whole_cells.Given as goal

abbrev pub invariant-loop-place : goal.invariant-loop-place
invariant-loop-place l = l.cells ≡ sum_by (cells_of l.tracks) (take l.place (rows_in l.rows))
