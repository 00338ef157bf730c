use Rattle.std.proofs.Common.{◌≡◌, ◌<◌, ◌/◌, ◌%◌, ℕ, List, [], length, get_or, subst, sym, ap, ◌∙◌, arith}
use Rattle.std.specs.List.{flat_map}
use Rattle.digit_tuple.specs.Decisions.{rows_in}
use Rattle.digit_tuple.specs.SparseRows.{Rows, row_at, block_rows, AreOver, AreRowBlocks}
use Rattle.digit_tuple.specs.declared.decisions.Decisions.{Decisions}
use Rattle.digit_tuple.proofs.BlockLemmas.{IsInBlock, in_block}
use Rattle.digit_tuple.proofs.JoinedReads.{all_at}
use Rattle.digit_tuple.proofs.sparse_rows.SparseRows.block_of.Goals as goal

-- where a row of a table is in the blocks
found : (sizes : List ℕ) (blocks : List Decisions) (table : Rows) (place : ℕ) → (let t : Rows = record { sizes = sizes; rows = flat_map rows_in blocks } in t) ≡ table → AreRowBlocks sizes blocks → place < length table.rows → IsInBlock rows_in blocks (place / block_rows) (place % block_rows) place
found sizes blocks table place same are within = in_block rows_in blocks block_rows place are.rows (omega arith) (subst (λ (t : Rows). place < length t.rows) (sym same) within)

pub index-requires : goal.index-requires
index-requires c =
    let blocks = c.self.inside.blocks in
    omega (arith, (found c.self.inside.tracks blocks.items c.args.self.now c.args.place c.self.view_is c.self.invariant.0 c.requires).block_within, blocks.ok)

pub returns-clause-over : goal.returns-clause-over
returns-clause-over c =
    let blocks = c.self.inside.blocks.items in
    let tracks = c.self.inside.tracks in
    let row = found tracks blocks c.args.self.now c.args.place c.self.view_is c.self.invariant.0 c.requires in
    subst (λ (t : Rows). AreOver t.sizes c.index.result.now) c.self.view_is
    (subst (AreOver tracks) (sym c.index.ensures) (all_at (AreOver tracks) blocks (c.args.place / block_rows) c.index.result.now c.self.invariant.0.over row.block_within))

pub returns-clause-within : goal.returns-clause-within
returns-clause-within c =
    let row = found c.self.inside.tracks c.self.inside.blocks.items c.args.self.now c.args.place c.self.view_is c.self.invariant.0 c.requires in
    subst (λ (d : Decisions). c.args.place % block_rows < length (rows_in d)) (sym c.index.ensures) (row.place_within c.index.result.now)

pub returns-clause-row : goal.returns-clause-row
returns-clause-row c =
    let row = found c.self.inside.tracks c.self.inside.blocks.items c.args.self.now c.args.place c.self.view_is c.self.invariant.0 c.requires in
    ap (λ (d : Decisions). get_or (rows_in d) (c.args.place % block_rows) []) c.index.ensures ∙ sym (row.same c.index.result.now []) ∙ ap (λ (t : Rows). row_at t c.args.place) c.self.view_is
