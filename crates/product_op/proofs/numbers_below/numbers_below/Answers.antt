use Rattle.std.proofs.Common.{◌≡◌, [], ◌∷◌, ◌++◌, ap, sym, ◌∙◌, arith}
use Rattle.std.specs.List.{range_with_len}
use Rattle.digit_tuple.proofs.RangeLemmas.{range_more}
use Rattle.product_op.proofs.numbers_below.numbers_below.Goals as goal

pub loop-number-preserved : goal.loop-number-preserved
loop-number-preserved c = c.in_ok-push.ensures.items ∙ ap (λ ns. ns ++ c.loop-number.number ∷ []) c.loop-number.invariant ∙ sym (range_more c.loop-number.number)

pub returns : goal.returns
returns c =
    let same : c.loop-number.number ≡ c.args.count = omega (arith, c.loop-number.auto.number-end, c.loop-number-test.false) in
    c.loop-number.invariant ∙ ap (range_with_len 0) same
