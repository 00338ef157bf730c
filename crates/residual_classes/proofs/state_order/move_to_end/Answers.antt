use Rattle.std.proofs.Common.{◌≡◌, ◌+◌, ◌-◌, ◌<◌, ◌≤◌, ◌⊎◌, inl, inr, ℕ, Vec, Global, length, take, get_or, sym, ap, ◌∙◌, subst, arith}
use Rattle.std.specs.List.{swap}
use Rattle.std.proofs.lemmas.List.{get_or_default}
use Rattle.residual_classes.specs.StateOrder.{AreAtEnd, AreInverse}
use Rattle.residual_classes.proofs.StateOrderLemmas.{AreAtEnd-none, AreAtEnd-stay, AreAtEnd-move}
use Rattle.residual_classes.proofs.state_order.move_to_end.Goals as goal
use Rattle.residual_classes.proofs.state_order.move_to_end.Goals.{then-start-place+then-place-middle, else-start-place, else-start-place-via-then-start-place+else-place-middle, else-start-place-via-else-start-place}

pub loop-state-init : goal.loop-state-init
loop-state-init c = record {
  order = c.requires.order;
  moved = AreAtEnd-none c.args.states.now.items c.args.start c.args.end c.requires.start;
}

pub loop-state-preserved : goal.loop-state-preserved
loop-state-preserved c =
    let old = c.args.states.now.items in
    let states = c.loop-state.states.items in
    let places = c.loop-state.places.items in
    let set = c.args.set.now in
    let i = c.loop-state.state-index in
    let order = c.loop-state.invariant.order in
    let moved = c.loop-state.invariant.moved in
    let fits : c.args.end ≤ length states = omega (arith, moved.width, c.requires.end) in
    let inside : get_or set i 0 < length states = omega (arith, c.requires.set i 0 c.loop-state-test.true, moved.width) in
    let place : c.index-place.result.now ≡ get_or places (get_or set i 0) 0 = c.index-place.ensures ∙ get_or_default places (get_or set i 0) c.index-place.result.now 0 (omega (arith, order.width, inside)) in
    let new = c.if-start-place.states.items in
    let middle = c.if-start-place.middle in
    let stays = λ (off : (get_or places (get_or set i 0) 0 < c.args.start) ⊎ (c.loop-state.middle ≤ get_or places (get_or set i 0) 0)).
    AreAtEnd-stay old states places set i c.args.start c.loop-state.middle c.args.end c.loop-state-test.true order fits moved inside off in
    elim c.if-start-place.branch [
      | then-start-place+then-place-middle w ↦ record {
        order = subst (λ (v : Vec ℕ Global). AreInverse v.items c.if-start-place.places.items) (sym w.states-is)
            (subst (λ (v : Vec ℕ Global). AreInverse w.swap_states.new.states.items v.items) (sym w.places-is) w.swap_states.ensures.order);
        moved = AreAtEnd-move old states places set i c.args.start c.loop-state.middle c.args.end c.loop-state-test.true order fits moved inside new middle
            (omega (arith, w.middle-is, w.if-place-middle.true)) (omega (arith, w.if-start-place.true, place)) (omega (arith, w.if-place-middle.true, place))
            (ap (λ (v : Vec ℕ Global). v.items) w.states-is ∙ w.swap_states.ensures.swapped ∙ ap (λ (p : ℕ). swap states p (c.loop-state.middle - 1)) place
            ∙ ap (swap states (get_or places (get_or set i 0) 0)) (sym w.middle-is));
      }
      | else-start-place w ↦ record {
        order = subst (λ (v : Vec ℕ Global). AreInverse v.items c.if-start-place.places.items) (sym w.states-is)
            (subst (λ (v : Vec ℕ Global). AreInverse states v.items) (sym w.places-is) order);
        moved = subst (λ (v : Vec ℕ Global). AreAtEnd old v.items (take (i + 1) set) c.args.start middle c.args.end) (sym w.states-is)
            (subst (λ (m : ℕ). AreAtEnd old states (take (i + 1) set) c.args.start m c.args.end) (sym w.middle-is)
            (elim w.else-start-place.branch [
              | else-start-place-via-then-start-place+else-place-middle v ↦ stays (inr (omega (arith, v.if-place-middle.false, place)))
              | else-start-place-via-else-start-place v ↦ stays (inl (omega (arith, v.if-start-place.false, place)))
            ]));
      }
    ]

pub index-place-requires : goal.index-place-requires
index-place-requires c = omega (arith, c.requires.set c.loop-state.state-index 0 c.loop-state-test.true, c.loop-state.invariant.moved.width, c.loop-state.invariant.order.width, c.loop-state.places.ok)

pub swap_states-requires-clause-order : goal.swap_states-requires-clause-order
swap_states-requires-clause-order c = c.loop-state.invariant.order

pub swap_states-requires-clause-first : goal.swap_states-requires-clause-first
swap_states-requires-clause-first c = omega (arith, c.if-place-middle.true, c.loop-state.invariant.moved.before_end, c.loop-state.invariant.moved.width, c.requires.end)

pub swap_states-requires-clause-second : goal.swap_states-requires-clause-second
swap_states-requires-clause-second c = omega (arith, c.if-place-middle.true, c.loop-state.invariant.moved.before_end, c.loop-state.invariant.moved.width, c.requires.end)
