use Rattle.std.proofs.Common.{◌≡◌, List, ◌∙◌, sym, subst}
use Rattle.std.specs.List.{AllByRecursion}
use Rattle.std.proofs.lemmas.Slice.Eq.{bytes_eq-Decides}
use Rattle.system_admission.specs.KeptSystems.{IsLanguage, IsRight}
use Rattle.system_admission.specs.KeptViews.{kept_systems}
use Rattle.system_admission.specs.declared.kept.Entry.{Entry}
use Rattle.system_admission.proofs.KeptSteps.{right_at}
use Rattle.system_admission.proofs.kept.KeptSystems.has_language.Goals as goal

pub returns-then-eq : goal.returns-then-eq
returns-then-eq c = λ is.
    let right = subst (λ (es : List Entry). AllByRecursion IsRight (kept_systems es)) (sym c.deref-entry-items.ensures.value) c.self.invariant.right in
    let entry = right_at c.deref-entry-items.result.now c.loop-entry.entry-index c.entry-item.result right c.loop-entry-test.true c.entry-item.is in
    let same : c.as_slice.result.now ≡ c.args.text.now = (bytes_eq-Decides c.as_slice.result.now c.args.text.now).0 (sym c.eq.ensures ∙ c.if-eq.true) in
    subst IsLanguage (sym c.as_slice.ensures.value ∙ same) entry.language
