use Rattle.std.proofs.Common.{rules, ℤ, List, [], Option, w32, sym, ap, ◌∙◌}
use Rattle.std.specs.Prelude.{slice_get, unwrap_or}
use Rattle.std.proofs.lemmas.Int.{to_z-of_z}
use mir.Val.{SFits}
use Rattle.morph_words.specs.Rules.{image_of}
use Rattle.word_images.specs.RecodedLetters.{recoded_letter}
use Rattle.word_images.proofs.RecodingLemmas.{copied_at}
use Rattle.word_images.proofs.recoding.recoded_letter.Goals as goal

pub returns-in-Some : goal.returns-in-Some
returns-in-Some c =
    let morphism = c.args.morphism.now in
    let place = c.args.place in
    let letter : ℤ = c.in_ok-letter.field-0 in
    let fits : SFits w32 letter = search rules in
    let found = c.letters.ensures ∙ ap (λ (o : Option (List ℤ)). unwrap_or o []) (c.in-Some.ensures.image ∙ ap (image_of morphism) (to_z-of_z w32 letter fits)) in
    c.copied.ensures ∙ copied_at c.get.result c.letters.result.now place c.get.ensures.lookup.1 c.get.ensures.lookup.3 ∙ ap (λ (xs : List ℤ). slice_get xs place) found ∙ sym (ap (recoded_letter morphism place) c.in_ok-letter.was)

pub returns-in-None : goal.returns-in-None
returns-in-None c =
    let morphism = c.args.morphism.now in
    let place = c.args.place in
    let letter : ℤ = c.in_ok-letter.field-0 in
    let fits : SFits w32 letter = search rules in
    let none = ap (λ (o : Option (List ℤ)). unwrap_or o []) (c.in-None.ensures.image ∙ ap (image_of morphism) (to_z-of_z w32 letter fits)) in
    ap (λ (xs : List ℤ). slice_get xs place) none ∙ sym (ap (recoded_letter morphism place) c.in_ok-letter.was)
