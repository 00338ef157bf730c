use Rattle.std.proofs.Common.{arith}
use Rattle.product_op.proofs.NextRowLemmas.{length-next_list, next_list-at}
use Rattle.product_op.proofs.next_row.NextRow.next.Goals as goal

pub bounds-list-letter : goal.bounds-list-letter
bounds-list-letter c =
    let d = c.requires.0 in
    let state = c.requires.1 in
    omega (arith, length-next_list d state c.list.result.now (c.list.ensures d state c.requires.2), c.requires.3)

pub returns : goal.returns
returns c d state row less = next_list-at d state c.list.result.now (c.list.ensures d state row) c.args.letter less
