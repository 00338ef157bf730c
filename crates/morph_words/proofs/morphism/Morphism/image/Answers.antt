use Rattle.std.proofs.Common.{◌∙◌, ap}
use Rattle.std.proofs.lemmas.Int.{to_z-of_z}
use mir.Val.{SFits}
use mir.Syntax.{w32}
use Rattle.morph_words.specs.Rules.{Rules, image_of}
use Rattle.morph_words.proofs.morphism.Morphism.image.Goals as goal

pub returns-clause-image : goal.returns-clause-image
returns-clause-image c =
    let fits : SFits w32 c.args.letter = c.ranges.letter in
    (simp to_z-of_z at c.get.ensures.value) ∙ ap (λ (m : Rules). image_of m c.args.letter) c.self.view_is
