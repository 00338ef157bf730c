use Rattle.std.proofs.Common.{Option, subst, arith}
use Rattle.std.specs.Option.{IfSome}
use Rattle.product_op.specs.declared.next_row.NextRow.{NextRow}
use Rattle.product_op.specs.NextRows.{IsNextRow}
use Rattle.product_op.proofs.live_pairs.next_by.Goals as goal

pub next-requires : goal.next-requires
next-requires c =
    let d = c.args.reader.now.dfa.now in
    let row : IsNextRow d c.args.state c.in-Some.row = subst (λ (o : Option NextRow). IfSome o (IsNextRow d c.args.state)) c.in-Some.is c.requires.row in
    (d, c.args.state, row, omega (arith, c.part.ensures, c.requires.reading.within c.args.letter 0 c.requires.letter))
