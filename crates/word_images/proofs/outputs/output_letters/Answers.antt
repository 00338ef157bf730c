use Rattle.std.proofs.Common.{rules, ℤ, pos, List, [], ◌++◌, Option, get_or, take, sym, ap, ◌∙◌}
use Rattle.std.specs.Prelude.{unwrap_or}
use Rattle.std.specs.Option.{option_copied}
use Rattle.std.specs.Int.{w32}
use Rattle.std.specs.Ordering.{int_eq}
use Rattle.std.proofs.lemmas.Int.{to_z-of_z}
use Rattle.std.proofs.lemmas.List.{append-nil, take_all}
use Rattle.std.proofs.lemmas.List.Filters.{dedup_is}
use mir.Val.{SFits}
use Rattle.morph_words.specs.Rules.{image_of}
use Rattle.morph_words.specs.Images.{applied, image}
use Rattle.word_images.proofs.LetterLemmas.{applied_more, outputs_sorted}
use Rattle.word_images.proofs.outputs.output_letters.Goals as goal
use Rattle.word_images.proofs.outputs.output_letters.Goals.{in-Some+in_ok-extend_from_slice, in_default}

pub loop-letter-preserved : goal.loop-letter-preserved
loop-letter-preserved c =
    let letters = c.letters-letter-items.result.now in
    let n = c.loop-letter.letter-index in
    let morphism = c.args.morphism.now in
    let letter : ℤ = get_or letters n (pos 0) in
    let fits : SFits w32 letter = search rules in
    let back = to_z-of_z w32 letter fits in
    let more = applied_more morphism letters n c.loop-letter-test.true in
    elim c.match-image.branch [
      | in-Some+in_ok-extend_from_slice w ↦
          let is = w.letters.ensures ∙ ap (λ (o : Option (List ℤ)). unwrap_or o []) (w.in-Some.ensures.image ∙ ap (image_of morphism) back) in
          ap (λ v. v.items) w.found-is ∙ w.in_ok-extend_from_slice.ensures.items ∙ ap (λ (xs : List ℤ). c.loop-letter.found.items ++ xs) is ∙ ap (λ (xs : List ℤ). xs ++ image morphism letter) c.loop-letter.invariant ∙ sym more
      | in_default w ↦
          let none = ap (λ (o : Option (List ℤ)). unwrap_or o []) (sym (ap option_copied w.in_default.is) ∙ c.image.ensures.image ∙ ap (image_of morphism) back) in
          ap (λ v. v.items) w.found-is ∙ c.loop-letter.invariant ∙ sym (append-nil (applied morphism (take n letters))) ∙ ap (λ (xs : List ℤ). applied morphism (take n letters) ++ xs) none ∙ sym more
    ]

pub returns : goal.returns
returns c =
    let sorted = c.sort_unstable.new.self.items in
    outputs_sorted c.args.morphism.now c.args.word.now c.loop-letter.found.items sorted c.dedup.new.self.items
    (c.loop-letter.invariant ∙ ap (applied c.args.morphism.now) (take_all c.loop-letter.letter-index c.letters-letter-items.result.now c.loop-letter-test.false ∙ c.letters-letter-items.ensures.value))
    c.sort_unstable.ensures.permutation c.sort_unstable.ensures.sorted (dedup_is int_eq sorted c.dedup.new.self.items c.dedup.ensures.filtered)
