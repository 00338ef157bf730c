use Rattle.std.proofs.Common.{◌≡◌, ◌<◌, ◌↔◌, ℕ, true, IfOk, sym, ◌∙◌, subst}
use Rattle.std.specs.List.{All}
use Rattle.std.proofs.lemmas.Result.{IfOk-weaker}
use Rattle.digit_tuple.specs.Automaton as branching
use Rattle.digit_tuple.specs.AcceptingStates.{AreAccepting}
use Rattle.digit_tuple.specs.declared.direction.Direction.{Direction}
use Rattle.pad_rename.specs.ZeroClosure.{flag_at}
use Rattle.pad_rename.proofs.SinkLeads.{AreAccepting-in_range}
use Rattle.project_close.specs.Image.{IsEnd}
use Rattle.project_close.proofs.ImageLemmas.{IsEnd-reached}
use Rattle.project_close.proofs.image.ends.Goals as goal

pub reached-requires : goal.reached-requires
reached-requires c =
    let d = c.args.d.now in
    subst (λ set. All (λ q. q < branching.states_of c.in_ok-turned-in-Lsd.turned) set) (sym c.deref-in-Lsd.ensures.value)
    (subst (λ count. All (λ q. q < count) c.in_ok-last-in-Lsd.last.items) (sym c.in_ok-turned-in-Lsd.ensures.reversal.states)
    (AreAccepting-in_range d c.in_ok-last-in-Lsd.last.items c.in_ok-last-in-Lsd.ensures))

pub returns-in_ok-last-in-Lsd-clause-ends : goal.returns-in_ok-last-in-Lsd-clause-ends
returns-in_ok-last-in-Lsd-clause-ends c places are =
    let d = c.args.d.now in
    let last = subst (AreAccepting d) (sym c.deref-in-Lsd.ensures.value) c.in_ok-last-in-Lsd.ensures in
    subst (λ (direction : Direction). IfOk c.reached.result (λ found. (q : ℕ) → (flag_at found.items q ≡ true) ↔ IsEnd direction d places q)) (sym c.in-Lsd.is)
    (IfOk-weaker c.reached.result _ _
    (λ found same q.
    let end = IsEnd-reached d places c.args.parts.now are c.in_ok-turned-in-Lsd.turned c.in_ok-turned-in-Lsd.ensures.reversal c.deref-in-Lsd.result.now last
    c.deref.result.now (c.deref.ensures.value ∙ c.in_ok-zero-in-Lsd.ensures) q in
    ((λ is. end.0 ((same q).0 is)), (λ ends. (same q).1 (end.1 ends))))
    c.reached.ensures.reached)
