use Rattle.std.proofs.Common.{ℤ, List, [], Option, length, ap, ◌∙◌}
use Rattle.std.specs.Prelude.{unwrap_or}
use Rattle.std.specs.Int.{w32}
use Rattle.std.proofs.lemmas.Int.{to_z-of_z}
use Rattle.morph_words.specs.Rules.{image_of}
use Rattle.morph_words.proofs.uniform.length_of.Goals as goal

pub returns-in-Some : goal.returns-in-Some
returns-in-Some c =
    ap length (c.letters.ensures ∙ ap (λ (o : Option (List ℤ)). unwrap_or o []) (c.in-Some.ensures.image ∙ ap (image_of c.args.morphism.now) (to_z-of_z w32 c.args.letter c.ranges.letter)))

pub returns-in-None : goal.returns-in-None
returns-in-None c =
    ap (λ (o : Option (List ℤ)). length (unwrap_or o [])) (c.in-None.ensures.image ∙ ap (image_of c.args.morphism.now) (to_z-of_z w32 c.args.letter c.ranges.letter))
