use Rattle.std.proofs.Common.{rules, ◌≡◌, ◌⊎◌, ℤ, pos, [], ◌∷◌, ◌++◌, Ok, Err, inr, get_or, w32, ap, ◌∙◌, subst}
use Rattle.std.specs.Prelude.{IfErr}
use Rattle.std.proofs.lemmas.Int.{to_z-of_z}
use mir.Val.{SFits}
use Rattle.digit_tuple.specs.declared.step_fault.StepFault.TheVariants.{Memory}
use Rattle.num_system.proofs.LineLemmas.{handed_on}
use Rattle.formula_build.specs.Solutions.{BuildsFormula}
use Rattle.combinations.specs.Parts.{PartValue}
use Rattle.word_commands.specs.ImageSteps.{letter_plan}
use Rattle.word_commands.specs.LetterParts.{IsLetterRelation, IsLetterStopped}
use Rattle.word_commands.specs.LetterSettings.{library_in}
use Rattle.word_commands.proofs.PartLemmas.{built_more, parts_more, stops_here}
use Rattle.word_commands.proofs.letter_parts.letter_parts.Goals as goal

pub returns-in_err-relation-clause-stopped : goal.returns-in_err-relation-clause-stopped
returns-in_err-relation-clause-stopped c =
    let s = c.args.formulas.system.now in
    let k = c.args.formulas.length in
    let l = library_in c.args.formulas.setting.now in
    let letters = c.args.letters.now in
    let letter : ℤ = get_or letters c.loop-letter.letter-index (pos 0) in
    let fits : SFits w32 letter = search rules in
    let fault = c.in_err-relation.field-0.0 in
    let stopped : BuildsFormula l (letter_plan s k letter) c.loop-letter.steps (Err fault) c.letter_relation.new.steps =
    subst (λ (b : ℤ). BuildsFormula l (letter_plan s k b) c.loop-letter.steps (Err fault) c.letter_relation.new.steps) (to_z-of_z w32 letter fits) c.in_err-relation.ensures.steps in
    handed_on (λ r. IfErr r (λ f. (f ≡ Memory) ⊎ IsLetterStopped l s k c.args.steps.now letters f c.letter_relation.new.steps)) c.from_residual-in_err-relation.result fault c.from_residual-in_err-relation.ensures.1
    (inr (stops_here l s k letters c.loop-letter.letter-index c.loop-letter.parts.items c.args.steps.now c.loop-letter.steps c.letter_relation.new.steps fault c.loop-letter-test.true c.loop-letter.invariant.built stopped))

pub loop-letter-preserved : goal.loop-letter-preserved
loop-letter-preserved c =
    let t = c.args.formulas.setting.now in
    let s = c.args.formulas.system.now in
    let k = c.args.formulas.length in
    let l = library_in t in
    let letters = c.args.letters.now in
    let letter : ℤ = get_or letters c.loop-letter.letter-index (pos 0) in
    let fits : SFits w32 letter = search rules in
    let back = to_z-of_z w32 letter fits in
    let relation = c.in_ok-relation.relation in
    let built : BuildsFormula l (letter_plan s k letter) c.loop-letter.steps (Ok relation) c.letter_relation.new.steps =
    subst (λ (b : ℤ). BuildsFormula l (letter_plan s k b) c.loop-letter.steps (Ok relation) c.letter_relation.new.steps) back c.in_ok-relation.ensures.steps in
    let holds : IsLetterRelation t s k letter relation = subst (λ (b : ℤ). IsLetterRelation t s k b relation) back c.in_ok-relation.ensures.relation in
    let pushed : c.push.new.self.items ≡ c.loop-letter.parts.items ++ record { relation = relation; value = letter } ∷ [] =
    c.in_ok-push.ensures.items ∙ ap (λ (part : PartValue). c.loop-letter.parts.items ++ part ∷ []) (c.new-in-loop-letter.ensures ∙ (λ i. record { relation = c.in_ok-new.ensures.ok i; value = back i })) in
    record {
      built = built_more l s k letters c.loop-letter.letter-index c.loop-letter.parts.items c.push.new.self.items c.args.steps.now c.loop-letter.steps c.letter_relation.new.steps relation c.loop-letter-test.true pushed c.loop-letter.invariant.built built;
      parts = parts_more t s k c.loop-letter.parts.items c.push.new.self.items letter relation pushed c.loop-letter.invariant.parts holds;
    }
