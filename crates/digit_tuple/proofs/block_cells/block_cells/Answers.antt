use Rattle.std.proofs.Common.{◌≡◌, ◌<◌, length, sym, ◌∙◌, arith}
use Rattle.std.proofs.lemmas.Bool.{false≢true}
use Rattle.digit_tuple.specs.Decisions.{rows_in, sizes_in}
use Rattle.digit_tuple.specs.Letters.{product}
use Rattle.digit_tuple.proofs.BlockCellLemmas.{few-cells}
use Rattle.digit_tuple.proofs.CellLemmas.{cells-tracks}
use Rattle.digit_tuple.proofs.block_cells.block_cells.Goals as goal

pub cells-requires : goal.cells-requires
cells-requires c =
    let parted : ¬ ((1 < length c.args.tracks.now) × (0 < product c.args.tracks.now) × (length (sizes_in c.args.rows.now) ≡ 1)) = λ whole. false≢true (sym c.if-is_whole.false ∙ c.is_whole.ensures.1 whole) in
    omega (arith, cells-tracks c.args.tracks.now c.args.rows.now c.requires.over.sound c.requires.over.tracks c.requires.some parted, few-cells c.args.tracks.now (rows_in c.args.rows.now), c.requires.few)

pub returns-else-is_whole : goal.returns-else-is_whole
returns-else-is_whole c =
    let parted : ¬ ((1 < length c.args.tracks.now) × (0 < product c.args.tracks.now) × (length (sizes_in c.args.rows.now) ≡ 1)) = λ whole. false≢true (sym c.if-is_whole.false ∙ c.is_whole.ensures.1 whole) in
    c.cells.ensures ∙ cells-tracks c.args.tracks.now c.args.rows.now c.requires.over.sound c.requires.over.tracks c.requires.some parted
