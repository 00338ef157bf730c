use Rattle.std.proofs.Common.{◌≡◌, ◌+◌, List, Option, length, get_or, sym, subst, arith}
use Rattle.std.specs.Option.{IfSome}
use Rattle.product_op.specs.declared.next_row.NextRow.{NextRow}
use Rattle.product_op.specs.NextRows.{IsNextRow}
use Rattle.product_op.proofs.NextRowLemmas.{AreRowsTo, AreRowsTo-more}
use Rattle.product_op.proofs.next_row.next_rows.Goals as goal

pub loop-place-preserved : goal.loop-place-preserved
loop-place-preserved c =
    let tables = c.args.tables.now in
    let key = c.args.key.now in
    let place = c.loop-place.place in
    let table = c.index-tables-place.result in
    let found : IfSome c.in_ok-row.field-0 (IsNextRow table (get_or key place 0)) = c.in_ok-row.ensures in
    let row : IsNextRow table (get_or key place 0) c.in-Some.row = subst (λ (o : Option NextRow). IfSome o (IsNextRow table (get_or key place 0))) c.in-Some.is found in
    subst (λ (rows : List NextRow). AreRowsTo tables key rows (place + 1)) (sym c.in_ok-push-in-Some.ensures.items)
    (AreRowsTo-more tables key c.loop-place.rows.items place table c.in-Some.row c.loop-place-test.true c.index-tables-place.is row c.loop-place.invariant)

pub returns : goal.returns
returns c =
    let all : c.loop-place.place ≡ length c.args.tables.now = omega (arith, c.loop-place.auto.place-end, c.loop-place-test.false) in
    record {
      count = omega (arith, c.loop-place.invariant.count_is, all);
      each = λ i less d z. c.loop-place.invariant.each i (omega (arith, less, all)) d z;
    }
