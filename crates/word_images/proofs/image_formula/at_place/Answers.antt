use Rattle.std.proofs.Common.{rules, ℤ, w32, ap, ◌∙◌}
use Rattle.std.proofs.lemmas.Int.{to_z-of_z}
use mir.Val.{SFits}
use Rattle.formula_parse.specs.Views.{formula_view}
use Rattle.word_images.specs.ImageFormula.{has_letter}
use Rattle.word_images.proofs.TreeLemmas.{pushed_first, quantified_made}
use Rattle.word_images.proofs.image_formula.at_place.Goals as goal

pub returns : goal.returns
returns c =
    let fits : SFits w32 c.args.letter = search rules in
    quantified_made c.push-2.new.self c.push.new.self c.in_ok-body.body c.in_ok-last.last c.in_ok-is_place.field-0 c.in_ok-new.field-0 c.args.system.now c.args.length c.args.place c.args.letter
    (pushed_first c.new-variables.result.items c.push-2.new.self.items _ c.new-variables.ensures.items c.in_ok-push-2.ensures.items) c.in_ok-new.ensures c.in_ok-body.ensures.ok
    (pushed_first c.new-operands.result.items c.push.new.self.items _ c.new-operands.ensures.items c.in_ok-push.ensures.items) c.in_ok-is_place.ensures
    (ap formula_view c.in_ok-last.ensures.ok ∙ c.in_ok-has_letter.ensures ∙ ap (λ (b : ℤ). has_letter c.args.system.now c.args.place b) (to_z-of_z w32 c.args.letter fits))
