use Rattle.std.proofs.Common.{List, ℕ, length, ap, ◌∙◌, subst}
use Rattle.residual_classes.specs.ClassFunctions.{SameClassFunction}
use Rattle.minimise.proofs.BitLemmas.{length-bits, SameLanguage-bits, IsCanonical-bits}
use Rattle.std.proofs.lemmas.Result.{IfOk-from_err}
use Rattle.minimise.proofs.canonical.canonical.Goals as goal

pub canonical_classes-requires : goal.canonical_classes-requires
canonical_classes-requires c = ap length (c.deref.ensures.value ∙ c.in_ok-outputs.ensures) ∙ length-bits c.args.d.now

pub returns-clause-language : goal.returns-clause-language
returns-clause-language c =
    let d = c.args.d.now in
    let minimal = c.in_ok-minimal.minimal in
    let outputs = c.in_ok-minimal.field-0-1.items in
    let same = subst (λ (os : List ℕ). SameClassFunction d os minimal outputs) (c.deref.ensures.value ∙ c.in_ok-outputs.ensures) c.in_ok-minimal.ensures.function in
    SameLanguage-bits d minimal outputs c.in_ok-minimal.ensures.sizes same c.in_ok-minimal.ensures.canonical

pub returns-clause-canonical : goal.returns-clause-canonical
returns-clause-canonical c =
    let d = c.args.d.now in
    let minimal = c.in_ok-minimal.minimal in
    let outputs = c.in_ok-minimal.field-0-1.items in
    let same = subst (λ (os : List ℕ). SameClassFunction d os minimal outputs) (c.deref.ensures.value ∙ c.in_ok-outputs.ensures) c.in_ok-minimal.ensures.function in
    IsCanonical-bits d minimal outputs c.in_ok-minimal.ensures.sizes same c.in_ok-minimal.ensures.canonical

pub returns-in_err-outputs-clause-sizes : goal.returns-in_err-outputs-clause-sizes
returns-in_err-outputs-clause-sizes c = IfOk-from_err c.from_residual.result _ c.from_residual.ensures.0

pub returns-in_err-outputs-clause-language : goal.returns-in_err-outputs-clause-language
returns-in_err-outputs-clause-language c = IfOk-from_err c.from_residual.result _ c.from_residual.ensures.0

pub returns-in_err-outputs-clause-canonical : goal.returns-in_err-outputs-clause-canonical
returns-in_err-outputs-clause-canonical c = IfOk-from_err c.from_residual.result _ c.from_residual.ensures.0

pub returns-in_err-minimal-clause-sizes : goal.returns-in_err-minimal-clause-sizes
returns-in_err-minimal-clause-sizes c = IfOk-from_err c.from_residual-in_err-minimal.result _ c.from_residual-in_err-minimal.ensures.0

pub returns-in_err-minimal-clause-language : goal.returns-in_err-minimal-clause-language
returns-in_err-minimal-clause-language c = IfOk-from_err c.from_residual-in_err-minimal.result _ c.from_residual-in_err-minimal.ensures.0

pub returns-in_err-minimal-clause-canonical : goal.returns-in_err-minimal-clause-canonical
returns-in_err-minimal-clause-canonical c = IfOk-from_err c.from_residual-in_err-minimal.result _ c.from_residual-in_err-minimal.ensures.0

pub returns-clause-sizes : goal.returns-clause-sizes
returns-clause-sizes c = c.in_ok-minimal.ensures.sizes
