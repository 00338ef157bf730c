use Rattle.std.proofs.Common.{rules, ◌≡◌, ◌+◌, ℤ, pos, Some, true, false, get_or, sym, ap, ◌∙◌, subst, arith}
use Rattle.std.specs.Int.{w32}
use Rattle.std.proofs.lemmas.Bool.{false≢true}
use Rattle.std.proofs.lemmas.Int.{to_z-of_z}
use mir.Val.{SFits}
use Rattle.morph_words.specs.Rules.{has}
use Rattle.morph_words.specs.Uniform.{IsLeastOf}
use Rattle.fixed_points.specs.LeastLetters.{LacksAmong, lesser}
use Rattle.fixed_points.proofs.LeastLemmas.{among_more, among_stay, copied_has}
use Rattle.fixed_points.proofs.fixed_base.least_lacking_of.Goals as goal
use Rattle.fixed_points.proofs.fixed_base.least_lacking_of.Goals.{then-is_none, else-is_none}

pub loop-letter-preserved : goal.loop-letter-preserved
loop-letter-preserved c =
    let morphism = c.args.morphism.now in
    let word = c.args.word.now in
    let n = c.loop-letter.letter-index in
    let letter : ℤ = get_or word n (pos 0) in
    let fits : SFits w32 letter = search rules in
    let back = to_z-of_z w32 letter fits in
    elim c.if-is_none.branch [
      | then-is_none w ↦
          let none : has morphism letter ≡ false = copied_has c.image.result morphism _ letter false c.image.ensures.image back w.if-is_none.ensures in
          subst (IsLeastOf (LacksAmong morphism word (n + 1))) (sym (w.found-is ∙ w.lesser-found.ensures ∙ ap (λ (z : ℤ). lesser c.loop-letter.found (Some z)) back))
          (among_more morphism word n c.loop-letter.found c.loop-letter-test.true (λ there. false≢true (sym none ∙ there)) c.loop-letter.invariant)
      | else-is_none w ↦
          subst (IsLeastOf (LacksAmong morphism word (n + 1))) (sym w.found-is)
          (among_stay morphism word n c.loop-letter.found (copied_has c.image.result morphism _ letter true c.image.ensures.image back w.if-is_none.ensures) c.loop-letter.invariant)
    ]

pub returns : goal.returns
returns c =
    subst (λ n. IsLeastOf (LacksAmong c.args.morphism.now c.args.word.now n) c.loop-letter.found) (omega (arith, c.loop-letter-test.false, c.loop-letter.auto.letter-index-end)) c.loop-letter.invariant
