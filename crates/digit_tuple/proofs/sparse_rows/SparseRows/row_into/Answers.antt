use Rattle.std.proofs.Common.{◌++◌, ◌%◌, [], List, map, get_or, ap, ◌∙◌}
use Rattle.digit_tuple.specs.Decisions.{rows_in, after_digit}
use Rattle.digit_tuple.specs.SparseRows.{block_rows}
use Rattle.digit_tuple.specs.declared.transitions.Transition.{Transition}
use Rattle.digit_tuple.proofs.DecisionLemmas.{on_ok}
use Rattle.digit_tuple.proofs.JoinedReads.{map-after_zero}
use Rattle.digit_tuple.proofs.sparse_rows.SparseRows.row_into.Goals as goal

pub returns : goal.returns
returns c =
    let row : List Transition = get_or (rows_in c.block_of.result.now) (c.args.place % block_rows) [] in
    on_ok c.row_into.result _ _ _ _ c.row_into.ensures c.row_into.ensures c.row_into.ensures
    (λ r q p. r ∙ ap (λ (es : List Transition). es ++ map (after_digit 0) row) c.clear.ensures.items ∙ map-after_zero row ∙ c.block_of.ensures.row)
