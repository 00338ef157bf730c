use Rattle.std.proofs.Common.{◌≡◌, ℤ, length, ap, sym, ◌∙◌, subst}
use Rattle.std.specs.Int.{cast_signed, cast_unsigned, w32}
use Rattle.morph_words.specs.Rules.{Rules}
use Rattle.morph_words.specs.Uniform.{HasOther, IsLeast}
use Rattle.morph_words.specs.FirstOther.{first_other}
use Rattle.morph_words.proofs.FirstOtherLemmas.{found_least, none_other, first_other_more}
use Rattle.morph_words.proofs.morphism.Morphism.first_of_other_length.Goals as goal

pub loop-letter-preserved : goal.loop-letter-preserved
loop-letter-preserved c =
    first_other_more c.args.length c.loop-letter.letter-iterator c.next.new.self c.in-Some.letter.now c.in-Some.image.now c.in-Some.ensures.steps (ap length (sym c.letters.ensures) ∙ c.if-letters-length.false) ∙ c.loop-letter.invariant

pub returns-then-letters-length-clause-other : goal.returns-then-letters-length-clause-other
returns-then-letters-length-clause-other c =
    let kept : first_other c.args.length c.loop-letter.letter-iterator ≡ first_other c.args.length c.self.inside.rules.entries =
    c.loop-letter.invariant ∙ ap (first_other c.args.length) (c.into_iter-letter-iterator.ensures.into_iter_gives ∙ c.iter-letter-items.ensures.rest) in
    subst (λ (rules : Rules). IsLeast (HasOther rules c.args.length) (cast_signed w32 (cast_unsigned w32 c.in-Some.letter.now))) c.self.view_is
    (found_least c.args.length c.self.inside.rules.entries c.loop-letter.letter-iterator c.next.new.self c.in-Some.letter.now c.in-Some.image.now c.self.invariant kept c.in-Some.ensures.steps
    (λ long. c.if-letters-length.true (ap length c.letters.ensures ∙ long)))

pub returns-clause-other : goal.returns-clause-other
returns-clause-other c =
    let kept : first_other c.args.length c.loop-letter.letter-iterator ≡ first_other c.args.length c.self.inside.rules.entries =
    c.loop-letter.invariant ∙ ap (first_other c.args.length) (c.into_iter-letter-iterator.ensures.into_iter_gives ∙ c.iter-letter-items.ensures.rest) in
    subst (λ (rules : Rules). (letter : ℤ) → ¬ HasOther rules c.args.length letter) c.self.view_is (none_other c.args.length c.self.inside.rules.entries c.loop-letter.letter-iterator c.self.invariant kept c.in-None.ensures.steps.0)
