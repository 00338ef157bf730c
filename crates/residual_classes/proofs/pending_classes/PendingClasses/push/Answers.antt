use Rattle.std.proofs.Common.{List, ℕ, set, true, sym, subst, arith}
use Rattle.std.specs.List.{Contains}
use Rattle.residual_classes.specs.Pending.{AreMarked}
use Rattle.residual_classes.proofs.PendingLemmas.{AreMarked-push, AreMarked-same}
use Rattle.residual_classes.proofs.pending_classes.PendingClasses.push.Goals as goal

pub invariant_of-self-2 : goal.invariant_of-self-2
invariant_of-self-2 c =
    let classes = c.self.inside.classes.items in
    let flags = c.widen.new.flags.items in
    let are : AreMarked classes flags = AreMarked-same classes c.self.inside.flags.items flags c.self.invariant c.widen.ensures.same in
    subst (λ (cs : List ℕ). AreMarked cs (set flags c.args.class true)) (sym c.in_ok-push.ensures.items)
    (AreMarked-push classes flags c.args.class are (subst (λ (cs : List ℕ). Contains cs c.args.class → ⊥) (sym c.self.view_is) c.requires) (omega (arith, c.in_ok-widen.ensures.room)))

pub invariant_of-self : goal.invariant_of-self
invariant_of-self c = AreMarked-same c.self.inside.classes.items c.self.inside.flags.items c.widen.new.flags.items c.self.invariant c.widen.ensures.same

pub index_mut-requires : goal.index_mut-requires
index_mut-requires c = omega (arith, c.in_ok-widen.ensures.room, c.widen.new.flags.ok)

pub invariant_of-self-in_err-push : goal.invariant_of-self-in_err-push
invariant_of-self-in_err-push c =
    subst (λ (cs : List ℕ). AreMarked cs c.widen.new.flags.items) (sym c.in_err-push.ensures.items)
    (AreMarked-same c.self.inside.classes.items c.self.inside.flags.items c.widen.new.flags.items c.self.invariant c.widen.ensures.same)
