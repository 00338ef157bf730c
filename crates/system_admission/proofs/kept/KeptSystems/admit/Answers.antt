use Rattle.std.proofs.Common.{Option, ◌∙◌, sym, ap, subst}
use Rattle.std.specs.Option.{IsSomeAnd}
use Rattle.digit_tuple.specs.Steps.{with_lines}
use Rattle.system_admission.specs.KeptSystems.{AdmitsPair}
use Rattle.system_admission.specs.KeptViews.{kept_system, pair_view}
use Rattle.system_admission.specs.declared.pair.SystemPair.{SystemPair}
use Rattle.system_admission.proofs.KeptSteps.{admits_again}
use Rattle.system_admission.proofs.kept.KeptSystems.admit.Goals as goal

pub returns : goal.returns
returns c =
    let old = c.args.steps.now in
    let new = c.add_lines.new.steps in
    let system = c.in_ok-system.system.value in
    let pair = c.in-Some.pair in
    subst (λ (given : Option SystemPair). IsSomeAnd given (λ files. AdmitsPair (pair_view files) old new system)) (sym c.in-Some.is)
    (admits_again (kept_system c.in-Some-fitting.entry.now) (pair_view pair) old new system c.in-Some-fitting.ensures.right c.in-Some-fitting.ensures.pair (sym (c.in-Some-fitting.ensures.limit ∙ c.limit.ensures))
    (c.in_ok-add_lines.ensures ∙ ap (with_lines old) c.deref.ensures.value) c.in_ok-system.ensures.cases)
