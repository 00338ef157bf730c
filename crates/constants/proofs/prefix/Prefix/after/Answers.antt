use Rattle.std.proofs.Common.{ℕ, List, [], ◌∷◌, ◌++◌, Bool, Option, sym, subst}
use Rattle.constants.specs.Prefixes.{IsPrefix, AreMarks}
use Rattle.constants.specs.declared.prefix.Prefix.{Prefix}
use Rattle.constants.specs.declared.prefix.Prefix.TheVariants.{After}
use Rattle.constants.proofs.PrefixLemmas.{prefix-after, prefix-before}
use Rattle.constants.proofs.prefix.Prefix.after.Goals as goal

pub returns-in-After-clause-prefix : goal.returns-in-After-clause-prefix
returns-in-After-clause-prefix c = λ direction w prefix.
    let a = c.args.language.now in
    subst (λ (state : Option ℕ). IsPrefix direction a (w ++ c.args.digit ∷ []) (After state)) (sym c.state_after.ensures.state)
    (prefix-after direction a w c.in-After.state c.args.digit (subst (λ (f : Prefix). IsPrefix direction a w f) c.in-After.is prefix))

pub returns-in_ok-marks_before-in-Before-clause-prefix : goal.returns-in_ok-marks_before-in-Before-clause-prefix
returns-in_ok-marks_before-in-Before-clause-prefix c = λ direction w prefix.
    let a = c.args.language.now in
    prefix-before direction a w c.in-Before.marks c.in_ok-marks_before-in-Before.field-0 c.args.digit (subst (λ (f : Prefix). IsPrefix direction a w f) c.in-Before.is prefix)
    (λ v marked. c.in_ok-marks_before-in-Before.ensures.marks v (subst (λ (marks : List Bool). AreMarks a v marks) (sym c.deref.ensures.value) marked))
