use Rattle.std.proofs.Common.{◌≡◌, ◌<◌, ◌++◌, [], ◌∷◌, length, get_or, sym, ◌∙◌, arith}
use Rattle.std.proofs.lemmas.List.{take_more}
use Rattle.word_commands.proofs.combine.are_same.Goals as goal

pub loop-place-preserved : goal.loop-place-preserved
loop-place-preserved c =
    let names = c.args.names.now in
    let others = c.args.others.now in
    let place = c.loop-place.place in
    let there : place < length others = omega (arith, c.loop-place-test.true, c.if-names-others.false) in
    let here : get_or names place c.index-names-place.result ≡ get_or others place c.index-others-place.result =
    sym c.index-names-place.is ∙ (c.is_same.ensures.0 c.if-not-is_same.false ∙ c.index-others-place.is) in
    let prefix = c.loop-place.invariant in
    take_more names place c.index-names-place.result c.loop-place-test.true ∙ (λ k. prefix k ++ here k ∷ []) ∙ sym (take_more others place c.index-others-place.result there)
