use Rattle.std.proofs.Common.{ℕ, ◌+◌, Vec, Global, sym, subst}
use Rattle.endless.specs.Counts.{AreFree}
use Rattle.endless.proofs.OrderLemmas.{AreFree-take, AreFree-skip}
use Rattle.endless.proofs.sorting.free_states.Goals as goal
use Rattle.endless.proofs.sorting.free_states.Goals.{then-pending-state-eq0+in_ok-push, else-pending-state-eq0}

pub loop-state-preserved : goal.loop-state-preserved
loop-state-preserved c = elim c.if-pending-state-eq0.branch [
  | then-pending-state-eq0+in_ok-push w ↦
      subst (λ (v : Vec ℕ Global). AreFree c.args.pending.now v.items (c.loop-state.state + 1)) (sym w.order-is)
      (subst (λ xs. AreFree c.args.pending.now xs (c.loop-state.state + 1)) (sym w.in_ok-push.ensures.items) (AreFree-take c.args.pending.now c.loop-state.order.items c.loop-state.state c.loop-state.invariant w.if-pending-state-eq0.true))
  | else-pending-state-eq0 w ↦
      subst (λ (v : Vec ℕ Global). AreFree c.args.pending.now v.items (c.loop-state.state + 1)) (sym w.order-is)
      (AreFree-skip c.args.pending.now c.loop-state.order.items c.loop-state.state c.loop-state.invariant w.if-pending-state-eq0.false)
]
