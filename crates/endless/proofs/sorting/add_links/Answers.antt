use Rattle.std.proofs.Common.{arith, ℕ, get_or}
use Rattle.std.proofs.lemmas.List.{get_or_default}
use Rattle.endless.proofs.TransitionCounts.{room_left}
use Rattle.endless.proofs.sorting.add_links.Goals as goal

pub overflow_add-index_mut : goal.overflow_add-index_mut
overflow_add-index_mut c =
    let t : ℕ = (get_or c.args.transitions.now c.loop-transition.transition-index (record { letter = 0; target = 0 })).target in
    let inside = c.requires.targets c.loop-transition.transition-index (record { letter = 0; target = 0 }) c.loop-transition-test.true in
    let room = room_left c.args.without_zero c.args.transitions.now c.loop-transition.transition-index t c.args.pending.now.items c.loop-transition.pending.items c.loop-transition-test.true c.loop-transition.invariant inside c.requires.room in
    omega (arith, room, c.index_mut.ensures.value, get_or_default c.loop-transition.pending.items t c.index_mut.result.now 0 (omega (arith, inside, c.loop-transition.invariant.width)))
