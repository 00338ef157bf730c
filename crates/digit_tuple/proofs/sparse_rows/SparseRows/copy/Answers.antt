use Rattle.std.proofs.Common.{◌≡◌, length, List, subst, sym, ap, ◌∙◌}
use Rattle.std.specs.List.{sum_by, flat_map}
use Rattle.digit_tuple.specs.Decisions.{rows_in}
use Rattle.digit_tuple.specs.SparseRows.{Rows, AreRowBlocks, HaveSameRows}
use Rattle.digit_tuple.specs.declared.transitions.Transition.{Transition}
use Rattle.digit_tuple.specs.declared.decisions.Decisions.{Decisions}
use Rattle.digit_tuple.proofs.RowBlockLemmas.{HaveSameRows-blocks, HaveSameRows-rows}
use Rattle.digit_tuple.proofs.sparse_rows.SparseRows.copy.Goals as goal

pub invariant_of-result : goal.invariant_of-result
invariant_of-result c =
    let old = c.self.inside.blocks.items in
    let new = c.in_ok-copy_blocks.field-0.items in
    let same : HaveSameRows old new = subst (λ (bs : List Decisions). HaveSameRows bs new) c.deref.ensures.value c.in_ok-copy_blocks.ensures in (
      HaveSameRows-blocks c.in_ok-copy.field-0 old new same (subst (λ sizes. AreRowBlocks sizes old) (sym c.in_ok-copy.ensures) c.self.invariant.0),
      c.self.invariant.1 ∙ ap (λ (rows : List (List Transition)). sum_by length rows) (sym (HaveSameRows-rows old new same)),
    )

pub returns : goal.returns
returns c =
    let old = c.self.inside.blocks.items in
    let new = c.in_ok-copy_blocks.field-0.items in
    let same : HaveSameRows old new = subst (λ (bs : List Decisions). HaveSameRows bs new) c.deref.ensures.value c.in_ok-copy_blocks.ensures in
    let rows : flat_map rows_in new ≡ flat_map rows_in old = HaveSameRows-rows old new same in
    ap (λ (rs : List (List Transition)). let t : Rows = record { sizes = c.in_ok-copy.field-0; rows = rs } in t) rows
    ∙ ap (λ ss. let t : Rows = record { sizes = ss; rows = flat_map rows_in old } in t) c.in_ok-copy.ensures ∙ c.self.view_is
