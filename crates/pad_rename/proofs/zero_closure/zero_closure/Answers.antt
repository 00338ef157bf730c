use Rattle.std.proofs.Common.{◌≡◌, ℕ, List, Bool, zero, suc, true, subst, sym, ap, ◌∙◌, arith, length, ◌↔◌, [], ◌∷◌}
use Rattle.std.proofs.lemmas.Result.{IfOk-weaker}
use Rattle.pad_rename.specs.ZeroClosure.{AreAfterZeros, AreFlagged, IsReached, flag_at}
use Rattle.pad_rename.proofs.ZeroClosureLemmas.{AreAfterZeros-flagged}
use Rattle.pad_rename.proofs.zero_closure.zero_closure.Goals as goal

pub reached-requires : goal.reached-requires
reached-requires c zero d within = c.states-states.ensures.table.initial
reached-requires c (suc k) d within = absurd (omega arith)

pub flagged-requires : goal.flagged-requires
flagged-requires c =
    let size = ap (λ (fs : List Bool). length fs) c.deref.ensures.value ∙ c.in_ok-reached.ensures.size in
    omega (arith, size, c.states-states.ensures.table.small)

pub returns : goal.returns
returns c =
    let n = c.args.nfa.now in
    IfOk-weaker c.flagged.result (λ set. AreFlagged c.deref.result.now set.items) (λ set. AreAfterZeros n set.items)
    (λ set flagged. AreAfterZeros-flagged n c.deref.result.now set.items c.states-states.ensures.table
    (subst (λ (fs : List Bool). (q : ℕ) → (flag_at fs q ≡ true) ↔ IsReached n (true ∷ []) (0 ∷ []) q) (sym c.deref.ensures.value) c.in_ok-reached.ensures.reached) flagged)
    c.flagged.ensures
