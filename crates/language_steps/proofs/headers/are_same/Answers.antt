use Rattle.std.proofs.Common.{◌≡◌, ◌<◌, ◌++◌, [], ◌∷◌, length, get_or, sym, ◌∙◌, arith}
use Rattle.std.proofs.lemmas.List.{take_more}
use Rattle.language_steps.proofs.headers.are_same.Goals as goal

pub loop-place-preserved : goal.loop-place-preserved
loop-place-preserved c =
    let sets = c.args.sets.now in
    let others = c.args.others.now in
    let place = c.loop-place.place in
    let there : place < length others = omega (arith, c.loop-place-test.true, c.if-sets-others.false) in
    let here : get_or sets place c.index-sets-place.result ≡ get_or others place c.index-others-place.result =
    sym c.index-sets-place.is ∙ (c.is_same.ensures.0 c.if-not-is_same.false ∙ c.index-others-place.is) in
    let prefix = c.loop-place.invariant in
    take_more sets place c.index-sets-place.result c.loop-place-test.true ∙ (λ k. prefix k ++ here k ∷ []) ∙ sym (take_more others place c.index-others-place.result there)
