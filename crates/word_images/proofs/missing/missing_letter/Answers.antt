use Rattle.std.proofs.Common.{rules, ℤ, pos, true, false, get_or, sym, ◌∙◌, subst}
use Rattle.std.specs.Int.{w32}
use Rattle.std.proofs.lemmas.Bool.{false≢true}
use Rattle.std.proofs.lemmas.Int.{to_z-of_z}
use mir.Val.{SFits}
use Rattle.morph_words.specs.Uniform.{IsLeast}
use Rattle.word_images.specs.ImageWords.{IsMissing}
use Rattle.word_images.proofs.LetterLemmas.{copied_has, first_missing_in, none_missing_in, ruled_more}
use Rattle.word_images.proofs.missing.missing_letter.Goals as goal

pub loop-letter-preserved : goal.loop-letter-preserved
loop-letter-preserved c =
    let letters = c.letters-letter-items.result.now in
    let n = c.loop-letter.letter-index in
    let letter : ℤ = get_or letters n (pos 0) in
    let fits : SFits w32 letter = search rules in
    ruled_more c.args.morphism.now letters n c.loop-letter.invariant (copied_has c.image.result c.args.morphism.now _ letter true c.image.ensures.image (to_z-of_z w32 letter fits) c.if-is_none.ensures)

pub returns-then-is_none : goal.returns-then-is_none
returns-then-is_none c =
    let letters = c.letters-letter-items.result.now in
    let n = c.loop-letter.letter-index in
    let letter : ℤ = get_or letters n (pos 0) in
    let fits : SFits w32 letter = search rules in
    let back = to_z-of_z w32 letter fits in
    let none = copied_has c.image.result c.args.morphism.now _ letter false c.image.ensures.image back c.if-is_none.ensures in
    subst (IsLeast (IsMissing c.args.morphism.now c.args.word.now)) (sym back)
    (first_missing_in c.args.morphism.now c.args.word.now letters n c.letters-letter-items.ensures.value c.letters-letter-items.ensures.word c.loop-letter-test.true c.loop-letter.invariant (λ there. false≢true (sym none ∙ there)))

pub returns : goal.returns
returns c = none_missing_in c.args.morphism.now c.args.word.now c.letters-letter-items.result.now c.loop-letter.letter-index c.letters-letter-items.ensures.value c.loop-letter-test.false c.loop-letter.invariant
