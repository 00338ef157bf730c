use Rattle.std.proofs.Common.{take, get_or, refl, sym, subst, arith}
use Rattle.digit_tuple.specs.declared.transitions.Transition.{Transition}
use Rattle.digit_tuple.specs.Groups.{AreGroups}
use Rattle.digit_tuple.proofs.GroupLemmas.{AreGroups-next, IsParted-next}
use Rattle.digit_tuple.proofs.groups.group_into.Goals as goal

pub loop-place-preserved : goal.loop-place-preserved
loop-place-preserved c =
    let transitions = c.args.transitions.now in
    let place = c.loop-place.place in
    let end = c.group_end-end.result in
    let z : Transition = record { letter = 0; target = 0 } in
    let next = AreGroups-next transitions place end (get_or transitions place z).letter z (omega arith) c.group_end-end.ensures.within c.loop-place.invariant.parted refl c.group_end-end.ensures.same c.loop-place.out c.loop-place.invariant.groups in
    record {
      within = c.group_end-end.ensures.within;
      groups = subst (AreGroups (take end transitions)) (sym c.in_ok-push_targets.ensures.ok) next;
      parted = IsParted-next transitions place end (get_or transitions place z).letter z (omega arith) c.group_end-end.ensures.within c.loop-place.invariant.parted refl c.group_end-end.ensures.same c.requires c.group_end-end.ensures.other;
    }
