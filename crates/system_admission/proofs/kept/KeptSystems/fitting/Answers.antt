use Rattle.std.proofs.Common.{List, sym, subst}
use Rattle.std.specs.List.{AllByRecursion}
use Rattle.system_admission.specs.KeptSystems.{IsRight}
use Rattle.system_admission.specs.KeptViews.{kept_systems}
use Rattle.system_admission.specs.declared.kept.Entry.{Entry}
use Rattle.system_admission.proofs.KeptSteps.{right_at}
use Rattle.system_admission.proofs.kept.KeptSystems.fitting.Goals as goal

pub returns-then-entry-limit-clause-right : goal.returns-then-entry-limit-clause-right
returns-then-entry-limit-clause-right c =
    let right = subst (λ (es : List Entry). AllByRecursion IsRight (kept_systems es)) (sym c.deref-entry-items.ensures.value) c.self.invariant.right in
    right_at c.deref-entry-items.result.now c.loop-entry.entry-index c.entry-item.result right c.loop-entry-test.true c.entry-item.is
