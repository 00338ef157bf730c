use Rattle.std.proofs.Common.{[], length, sym, ap, ◌∙◌, arith}
use Rattle.std.specs.Cmp.Lexicographic.{pointwise}
use Rattle.std.specs.Prelude.{nat_eq}
use Rattle.word_transduce.proofs.StateLemmas.{position_is}
use Rattle.word_transduce.proofs.listed_ends.ends_number.Goals as goal

pub returns-then-eq-clause-number : goal.returns-then-eq-clause-number
returns-then-eq-clause-number c =
    let list = c.args.list.now in
    let ends = c.args.ends.now in
    let k = c.loop-number.number in
    sym (position_is (λ other. pointwise nat_eq other ends) list k [] (omega (arith, c.loop-number-test.true, c.len-number-end.ensures)) c.loop-number.invariant
    (λ less. ap (λ other. pointwise nat_eq other ends) (sym c.key.ensures) ∙ sym c.eq.ensures ∙ c.if-eq.true))

pub returns-clause-number : goal.returns-clause-number
returns-clause-number c =
    let list = c.args.list.now in
    let ends = c.args.ends.now in
    c.len.ensures.len ∙ sym (position_is (λ other. pointwise nat_eq other ends) list (length list) [] (omega arith)
    (λ i less. c.loop-number.invariant i (omega (arith, less, c.loop-number-test.false, c.len-number-end.ensures))) (λ less. absurd (omega (arith, less))))
