use Rattle.std.proofs.Common.{◌≡◌, ◌++◌, ◌∷◌, [], ℕ, List, sym, ap, ◌∙◌, subst, arith}
use Rattle.word_walk.specs.FewStates.{AreStates, flags_of}
use Rattle.word_walk.proofs.FewStateLemmas.{AreStates-with, flags_of-with, states_with, states_with_left, states_with_more}
use Rattle.word_walk.proofs.few_states.FewStates.of_flags.Goals as goal
use Rattle.word_walk.proofs.few_states.FewStates.of_flags.Goals.{then-flags-state+else-len-most+in_ok-push, else-flags-state}

pub loop-state-preserved : goal.loop-state-preserved
loop-state-preserved c =
    let q : ℕ = c.loop-state.state in
    elim c.if-flags-state.branch [
      | then-flags-state+else-len-most+in_ok-push w ↦
          ap (λ v. v.items) w.states-is ∙ w.in_ok-push.ensures.items ∙ ap (λ (xs : List ℕ). xs ++ q ∷ []) c.loop-state.invariant
          ∙ sym (states_with_more q c.args.flags.now w.if-flags-state.true)
      | else-flags-state w ↦
          ap (λ v. v.items) w.states-is ∙ c.loop-state.invariant ∙ sym (states_with_left q c.args.flags.now w.if-flags-state.false)
    ]

pub invariant_of-result : goal.invariant_of-result
invariant_of-result c =
    let done : c.loop-state.state ≡ c.args.count = omega (arith, c.loop-state-test.false, c.loop-state.auto.state-end) in
    subst (AreStates c.args.count) (sym (c.shrink_to_fit.ensures.items ∙ c.loop-state.invariant ∙ ap (λ (n : ℕ). states_with n c.args.flags.now) done)) (AreStates-with c.args.count c.args.flags.now)

pub returns : goal.returns
returns c =
    let done : c.loop-state.state ≡ c.args.count = omega (arith, c.loop-state-test.false, c.loop-state.auto.state-end) in
    ap (flags_of c.args.count) (c.shrink_to_fit.ensures.items ∙ c.loop-state.invariant ∙ ap (λ (n : ℕ). states_with n c.args.flags.now) done)
    ∙ flags_of-with c.args.count c.args.flags.now c.requires
