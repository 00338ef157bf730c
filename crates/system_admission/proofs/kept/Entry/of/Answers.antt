use Rattle.std.proofs.Common.{refl}
use Rattle.system_admission.specs.KeptSystems.{KeptSystem, Pair}
use Rattle.system_admission.specs.KeptViews.{pair_view}
use Rattle.system_admission.proofs.KeptSteps.{right_kept, same_pair}
use Rattle.system_admission.proofs.kept.Entry.of.Goals as goal

pub returns : goal.returns
returns c =
    let pair : Pair = record { direction = c.args.pair.now.direction; name = c.in_ok-copy.field-0; language = c.in_ok-copied.field-0.items; adder = c.in_ok-copied-2.field-0.items } in
    let kept : KeptSystem = record { pair = pair; limit = c.limit.result; lines = c.in_ok-lines_after.field-0.items; system = c.in_ok-clone.field-0.value } in
    right_kept kept (pair_view c.args.pair.now) c.args.first c.args.steps.now c.args.system.now.value (same_pair pair (pair_view c.args.pair.now) refl c.in_ok-copy.ensures c.in_ok-copied.ensures c.in_ok-copied-2.ensures) c.limit.ensures
    c.in_ok-lines_after.ensures c.in_ok-clone.ensures.cases c.requires.right
