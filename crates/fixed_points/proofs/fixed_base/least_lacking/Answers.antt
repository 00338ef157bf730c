use Rattle.std.proofs.Common.{rules, ◌+◌, ℤ, pos, List, [], Option, get_or, sym, ap, ◌∙◌, subst}
use Rattle.std.specs.Prelude.{unwrap_or}
use Rattle.std.specs.Option.{option_copied}
use Rattle.std.specs.Int.{w32}
use Rattle.std.proofs.lemmas.Int.{to_z-of_z}
use mir.Val.{SFits}
use Rattle.morph_words.specs.Rules.{image_of}
use Rattle.morph_words.specs.Uniform.{IsLeastOf}
use Rattle.fixed_points.specs.LeastLetters.{LacksBelow}
use Rattle.fixed_points.proofs.LeastLemmas.{below_more, below_stay, lacking_all}
use Rattle.fixed_points.proofs.fixed_base.least_lacking.Goals as goal
use Rattle.fixed_points.proofs.fixed_base.least_lacking.Goals.{in-Some, in_default}

pub loop-letter-preserved : goal.loop-letter-preserved
loop-letter-preserved c =
    let n = c.loop-letter.letter-index in
    let morphism = c.args.morphism.now in
    let letters = c.args.letters.now in
    let letter : ℤ = get_or letters n (pos 0) in
    let fits : SFits w32 letter = search rules in
    let back = to_z-of_z w32 letter fits in
    elim c.match-image.branch [
      | in-Some w ↦
          let is = w.letters.ensures ∙ ap (λ (o : Option (List ℤ)). unwrap_or o []) (w.in-Some.ensures.image ∙ ap (image_of morphism) back) in
          subst (IsLeastOf (LacksBelow morphism letters (n + 1))) (sym (w.found-is ∙ w.lesser-found.ensures))
          (below_more morphism letters n c.loop-letter.found w.least_lacking_of.result w.letters.result.now c.loop-letter-test.true is c.loop-letter.invariant w.least_lacking_of.ensures)
      | in_default w ↦
          let none = ap (λ (o : Option (List ℤ)). unwrap_or o []) (sym (ap option_copied w.in_default.is) ∙ c.image.ensures.image ∙ ap (image_of morphism) back) in
          subst (IsLeastOf (LacksBelow morphism letters (n + 1))) (sym w.found-is) (below_stay morphism letters n c.loop-letter.found none c.loop-letter.invariant)
    ]

pub returns : goal.returns
returns c = lacking_all c.args.morphism.now c.args.letters.now c.loop-letter.letter-index c.loop-letter.found c.requires c.loop-letter-test.false c.loop-letter.invariant
