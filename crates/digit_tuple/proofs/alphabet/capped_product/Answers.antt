use Rattle.std.proofs.Common.{◌≡◌, ◌+◌, ◌*◌, ℕ, min, take, get_or, refl, sym, ap, ◌∙◌, arith}
use Rattle.digit_tuple.specs.Letters.{product}
use Rattle.digit_tuple.proofs.LetterLemmas.{product-take_more, min-mul}
use Rattle.digit_tuple.proofs.alphabet.capped_product.Goals as goal

pub loop-number-preserved : goal.loop-number-preserved
loop-number-preserved c =
    let s : ℕ = get_or c.args.numbers.now c.loop-number.number-index 0 in
    let p : ℕ = product (take c.loop-number.number-index c.args.numbers.now) in
    let more = product-take_more c.args.numbers.now c.loop-number.number-index s c.loop-number-test.true refl in
    let so_far : c.loop-number.count ≡ min p 65537 = c.loop-number.invariant in
    let factors : c.loop-number.count * c.from.result ≡ min p 65537 * s = ap (λ n. n * c.from.result) so_far ∙ ap (λ n. min p 65537 * n) c.from.ensures in
    let limit : c.from-in-loop-number.result + 1 ≡ 65537 = omega (arith, c.from-in-loop-number.ensures) in
    c.min-count.ensures ∙ ap (λ n. min n (c.from-in-loop-number.result + 1)) factors ∙ ap (λ n. min (min p 65537 * s) n) limit ∙ min-mul p s ∙ ap (λ n. min n 65537) (sym more)
