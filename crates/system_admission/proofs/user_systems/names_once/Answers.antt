use Rattle.std.proofs.Common.{◌≡◌, ◌∙◌, map, subst, arith}
use Rattle.std.specs.Prelude.{IfOk}
use Rattle.std.proofs.lemmas.List.{take_all}
use Rattle.formula_resolve.specs.declared.mention.Mention.TheVariants.{Marked}
use Rattle.system_admission.proofs.UserSteps.{first_marks}
use Rattle.system_admission.proofs.user_systems.names_once.Goals as goal

pub returns : goal.returns
returns c =
    let names = c.args.names.now in
    let all = take_all c.loop-name.name-index names (omega (arith, c.loop-name-test.false)) in
    let marks : c.deref.result.now ≡ map Marked names = c.deref.ensures.value ∙ (c.loop-name.invariant ∙ (λ i. map Marked (all i))) in
    subst (λ ns. IfOk c.first_systems-2.result (λ once. once.items ≡ ns)) (first_marks c.new.result c.deref.result.now names marks) c.first_systems-2.ensures
