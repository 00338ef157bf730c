use Rattle.std.proofs.Common.{◌≡◌, ◌+◌, ◌*◌, ◌<◌, ℕ, ℤ, List, min, take, get_or, length, sym, ap, ◌∙◌, arith}
use Rattle.std.proofs.lemmas.List.{get_or-map, length-map}
use Rattle.digit_tuple.specs.Letters.{product}
use Rattle.digit_tuple.specs.Sets.{sizes_of}
use Rattle.digit_tuple.proofs.LetterLemmas.{product-take_more, min-mul}
use Rattle.regex_build.proofs.build.tuple_count.Goals as goal

pub loop-set-preserved : goal.loop-set-preserved
loop-set-preserved c =
    let sets : List (List ℤ) = c.args.sets.now in
    let s : ℕ = length c.set-item.result in
    let p : ℕ = product (take c.loop-set.set-index (sizes_of sets)) in
    let within : c.loop-set.set-index < length (sizes_of sets) = omega (arith, length-map sets (λ (set : List ℤ). length set), c.loop-set-test.true) in
    let here : s ≡ get_or (sizes_of sets) c.loop-set.set-index 0 = ap (λ (set : List ℤ). length set) c.set-item.is ∙ sym (get_or-map (λ (set : List ℤ). length set) sets c.loop-set.set-index c.set-item.result 0 c.loop-set-test.true) in
    let more = product-take_more (sizes_of sets) c.loop-set.set-index s within here in
    let so_far : c.loop-set.count ≡ min p 65537 = c.loop-set.invariant in
    let factors : c.loop-set.count * c.from.result ≡ min p 65537 * s = ap (λ n. n * c.from.result) so_far ∙ ap (λ n. min p 65537 * n) (c.from.ensures ∙ c.len.ensures.value) in
    let limit : c.from-in-loop-set.result + 1 ≡ 65537 = omega (arith, c.from-in-loop-set.ensures) in
    c.min-count.ensures ∙ ap (λ n. min n (c.from-in-loop-set.result + 1)) factors ∙ ap (λ n. min (min p 65537 * s) n) limit ∙ min-mul p s ∙ ap (λ n. min n 65537) (sym more)
