use Rattle.std.proofs.Common.{sym, ◌∙◌}
use Rattle.digit_tuple.proofs.StateLemmas.{rows_decide}
use Rattle.residual_classes.proofs.ClassTransitionLemmas.{alike_from_rows, rows_from_alike}
use Rattle.residual_classes.proofs.stability.RowPair.are_alike.Goals as goal

pub returns : goal.returns
returns c =
    let d = c.args.dfa.now in
    let classes = c.args.classes.now in
    let p = c.args.p in
    let q = c.args.q in
    let one = c.as_slice.ensures ∙ c.in_ok-read.ensures in
    let other = c.as_slice-2.ensures ∙ c.in_ok-read-2.ensures in
    let alike_if = rows_decide c.as_slice.result.now c.as_slice-2.result.now c.eq.result c.eq.ensures in (
      (λ is. alike_from_rows d classes c.requires.table p q c.requires.own (sym one ∙ alike_if.0 is ∙ other)),
      (λ alike. alike_if.1 (one ∙ rows_from_alike d classes c.requires.table p q alike ∙ sym other)),
    )
