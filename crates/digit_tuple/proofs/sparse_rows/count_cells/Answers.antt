use Rattle.std.proofs.Common.{◌+◌, take, arith}
use Rattle.std.specs.List.{sum_by, flat_map}
use Rattle.std.proofs.lemmas.List.Sums.{sum_by-take-le}
use Rattle.digit_tuple.specs.CellCounts.{cells_of}
use Rattle.digit_tuple.specs.Decisions.{rows_in}
use Rattle.digit_tuple.specs.declared.decisions.Decisions.{Decisions}
use Rattle.digit_tuple.proofs.BlockCellLemmas.{few-cells, few-transitions, block_cells-more, sum-blocks}
use Rattle.digit_tuple.proofs.sparse_rows.count_cells.Goals as goal

pub block_cells-cells-requires-clause-few : goal.block_cells-cells-requires-clause-few
block_cells-cells-requires-clause-few c =
    omega (arith, few-transitions c.args.tracks.now c.args.blocks.now c.loop-block.block-index c.block-item.result c.loop-block-test.true c.block-item.is, c.requires.few)

pub overflow_add-cells : goal.overflow_add-cells
overflow_add-cells c =
    let tracks = c.args.tracks.now in
    let blocks = c.args.blocks.now in
    let place = c.loop-block.block-index in
    let more = block_cells-more tracks blocks place c.loop-block.cells c.block_cells-cells.result c.block-item.result c.loop-block-test.true c.block-item.is c.loop-block.invariant c.block_cells-cells.ensures in
    omega (
      arith,
      more,
      sum-blocks (cells_of tracks) (take (place + 1) blocks),
      sum-blocks (cells_of tracks) blocks,
      sum_by-take-le (λ (b : Decisions). sum_by (cells_of tracks) (rows_in b)) blocks (place + 1),
      few-cells tracks (flat_map rows_in blocks),
      c.requires.few,
    )

pub loop-block-preserved : goal.loop-block-preserved
loop-block-preserved c =
    block_cells-more c.args.tracks.now c.args.blocks.now c.loop-block.block-index c.loop-block.cells c.block_cells-cells.result c.block-item.result c.loop-block-test.true c.block-item.is c.loop-block.invariant c.block_cells-cells.ensures
