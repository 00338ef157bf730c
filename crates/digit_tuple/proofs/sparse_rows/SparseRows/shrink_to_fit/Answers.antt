use Rattle.std.proofs.Common.{length, List, sym, ap, ◌∙◌}
use Rattle.std.specs.List.{sum_by}
use Rattle.digit_tuple.specs.SparseRows.{Rows}
use Rattle.digit_tuple.specs.declared.transitions.Transition.{Transition}
use Rattle.digit_tuple.proofs.RowBlockLemmas.{HaveSameRows-blocks, HaveSameRows-rows}
use Rattle.digit_tuple.proofs.sparse_rows.SparseRows.shrink_to_fit.Goals as goal

pub invariant_of-self : goal.invariant_of-self
invariant_of-self c =
    let old = c.self.inside.blocks.items in
    let new = c.shrink_blocks.new.blocks.items in (
      HaveSameRows-blocks c.self.inside.tracks old new c.shrink_blocks.ensures c.self.invariant.0,
      c.self.invariant.1 ∙ ap (λ (rows : List (List Transition)). sum_by length rows) (sym (HaveSameRows-rows old new c.shrink_blocks.ensures)),
    )

pub returns : goal.returns
returns c =
    let rows = HaveSameRows-rows c.self.inside.blocks.items c.shrink_blocks.new.blocks.items c.shrink_blocks.ensures in
    ap (λ (rs : List (List Transition)). let t : Rows = record { sizes = c.self.inside.tracks; rows = rs } in t) rows ∙ c.self.view_is
