use Rattle.std.proofs.Common.{◌++◌, ap, sym, ◌∙◌, arith}
use Rattle.product_op.specs.NextTables.{next_list}
use Rattle.product_op.proofs.NextTableLemmas.{rows-more}
use Rattle.product_op.proofs.next_table.all_rows.Goals as goal

pub loop-state-preserved : goal.loop-state-preserved
loop-state-preserved c =
    let d = c.args.dfa.now in
    let state = c.loop-state.state in
    c.in_ok-extend_from_slice.ensures.items
    ∙ ap (λ xs. c.loop-state.next.items ++ xs) (c.deref.ensures.value ∙ c.in_ok-row.ensures)
    ∙ ap (λ xs. xs ++ next_list d state) c.loop-state.invariant
    ∙ sym (rows-more (next_list d) state 0 state (omega arith))
