use Rattle.std.proofs.Common.{ℕ, ◌+◌, Vec, Global, length, take, arith, sym, ◌∙◌, refl, subst}
use Rattle.endless.specs.Counts.{AreReleased, AreFree, Grows}
use Rattle.endless.proofs.TransitionCounts.{some_left, AreReleased-more, AreReleased-out}
use Rattle.endless.proofs.OrderLemmas.{Grows-trans}
use Rattle.endless.proofs.sorting.release.Goals as goal
use Rattle.endless.proofs.sorting.release.Goals.{then-is_kept+in_ok-release_link, else-is_kept}

pub release_link-requires-clause-some : goal.release_link-requires-clause-some
release_link-requires-clause-some c =
    some_left c.args.without_zero c.args.transitions.now c.loop-transition.transition-index (record { letter = 0; target = 0 }) (omega (arith, c.loop-transition-test.true)) c.args.pending.now.items c.loop-transition.pending.items _ c.loop-transition.invariant.released
    (sym c.is_kept.ensures ∙ c.if-is_kept.true) refl (c.requires.enough _ (c.requires.targets c.loop-transition.transition-index (record { letter = 0; target = 0 }) (omega (arith, c.loop-transition-test.true))))

pub loop-transition-preserved : goal.loop-transition-preserved
loop-transition-preserved c = elim c.if-is_kept.branch [
  | then-is_kept+in_ok-release_link w ↦ record {
    released = subst (λ (v : Vec ℕ Global). AreReleased c.args.without_zero (take (c.loop-transition.transition-index + 1) c.args.transitions.now) c.args.pending.now.items v.items) (sym w.pending-is)
        (AreReleased-more c.args.without_zero c.args.transitions.now c.loop-transition.transition-index (record { letter = 0; target = 0 }) c.loop-transition-test.true c.args.pending.now.items c.loop-transition.pending.items w.release_link.new.pending.items _
        c.loop-transition.invariant.released (sym c.is_kept.ensures ∙ w.if-is_kept.true) refl w.in_ok-release_link.ensures.less);
    free = subst (λ (v : Vec ℕ Global). AreFree v.items c.if-is_kept.order.items (length v.items)) (sym w.pending-is)
        (subst (λ (v : Vec ℕ Global). AreFree w.release_link.new.pending.items v.items (length w.release_link.new.pending.items)) (sym w.order-is) w.in_ok-release_link.ensures.free);
    grows = subst (λ (v : Vec ℕ Global). Grows c.args.order.now.items v.items) (sym w.order-is) (Grows-trans c.args.order.now.items c.loop-transition.order.items w.release_link.new.order.items c.loop-transition.invariant.grows w.in_ok-release_link.ensures.grows);
  }
  | else-is_kept w ↦ record {
    released = subst (λ (v : Vec ℕ Global). AreReleased c.args.without_zero (take (c.loop-transition.transition-index + 1) c.args.transitions.now) c.args.pending.now.items v.items) (sym w.pending-is)
        (AreReleased-out c.args.without_zero c.args.transitions.now c.loop-transition.transition-index (record { letter = 0; target = 0 }) c.loop-transition-test.true c.args.pending.now.items c.loop-transition.pending.items
        c.loop-transition.invariant.released (sym c.is_kept.ensures ∙ w.if-is_kept.false));
    free = subst (λ (v : Vec ℕ Global). AreFree v.items c.if-is_kept.order.items (length v.items)) (sym w.pending-is)
        (subst (λ (v : Vec ℕ Global). AreFree c.loop-transition.pending.items v.items (length c.loop-transition.pending.items)) (sym w.order-is) c.loop-transition.invariant.free);
    grows = subst (λ (v : Vec ℕ Global). Grows c.args.order.now.items v.items) (sym w.order-is) c.loop-transition.invariant.grows;
  }
]
