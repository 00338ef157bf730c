use Rattle.std.proofs.Common.{◌≡◌, ◌≤◌, ◌*◌, List, length, subst, sym, ap, arith}
use Rattle.std.specs.List.{sum_by, flat_map}
use Rattle.digit_tuple.specs.CellCounts.{cells_of}
use Rattle.digit_tuple.specs.Decisions.{rows_in}
use Rattle.digit_tuple.specs.SparseRows.{Rows}
use Rattle.digit_tuple.specs.declared.decisions.Decisions.{Decisions}
use Rattle.digit_tuple.proofs.BlockCellLemmas.{few-cells}
use Rattle.digit_tuple.proofs.CellLemmas.{cells-trackless}
use Rattle.digit_tuple.proofs.sparse_rows.SparseRows.cells.Goals as goal

pub returns-then-tracks-eq0-clause-count : goal.returns-then-tracks-eq0-clause-count
returns-then-tracks-eq0-clause-count c =
    let table = c.args.self.now in
    let none : length table.sizes ≡ 0 = omega (arith, c.if-tracks-eq0.true, c.tracks.ensures.value, ap (λ (t : Rows). length t.sizes) c.self.view_is) in
    sym (cells-trackless table.sizes table.rows none)

pub returns-clause-few : goal.returns-clause-few
returns-clause-few c =
    let tracks = c.self.inside.tracks in
    let few = few-cells tracks (flat_map rows_in c.self.inside.blocks.items) in
    subst (λ (t : Rows). c.count_cells.result ≤ length t.sizes * sum_by length t.rows) c.self.view_is
    (omega (arith, few, c.count_cells.ensures, ap (λ (blocks : List Decisions). sum_by (cells_of tracks) (flat_map rows_in blocks)) c.deref.ensures.value))
