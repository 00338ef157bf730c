use Rattle.std.proofs.Common.{rules, ℤ, w32, ap, ◌∙◌, ◌-◌, arith}
use Rattle.std.proofs.lemmas.Int.{to_z-of_z}
use mir.Val.{SFits}
use Rattle.word_images.specs.ImageFormula.{at_place, places_before}
use Rattle.word_images.proofs.TreeLemmas.{chain_made}
use Rattle.word_images.proofs.image_formula.image_formula.Goals as goal

pub returns : goal.returns
returns c =
    let fits : SFits w32 c.args.letter = search rules in
    let back = to_z-of_z w32 c.args.letter fits in
    chain_made c.args.system.now c.args.length c.loop-place.place c.args.letter c.loop-place.operands c.in_ok-new.field-0 c.in_ok-last.last
    (c.loop-place.invariant ∙ ap (λ (b : ℤ). places_before c.args.system.now c.args.length b c.loop-place.place) back)
    (omega (arith, c.loop-place-test.false)) c.in_ok-new.ensures.ok (c.in_ok-last.ensures ∙ ap (λ (b : ℤ). at_place c.args.system.now c.args.length b (c.args.length - 1)) back)
