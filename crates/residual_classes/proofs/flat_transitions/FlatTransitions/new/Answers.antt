use Rattle.std.proofs.Common.{◌≡◌, ℕ, ◌+◌, ◌<◌, List, [], ◌∷◌, ◌++◌, map, length, Option, sym, ap, ◌∙◌, subst, arith}
use Rattle.digit_tuple.specs.declared.transitions.Transition.{Transition}
use Rattle.digit_tuple.specs.Deterministic.{states_of}
use Rattle.residual_classes.specs.TransitionLetters.{listed, with_letters}
use Rattle.residual_classes.specs.FlatTransitions.{AreLaidOut}
use Rattle.residual_classes.proofs.TransitionLetterLemmas.{IsInPlace, IsInPlace-full, with_none}
use Rattle.residual_classes.proofs.FlatTransitionLemmas.{AreLaidOut-more, transitions-within}
use Rattle.residual_classes.proofs.flat_transitions.FlatTransitions.new.Goals as goal

pub overflow_cast-len : goal.overflow_cast-len
overflow_cast-len c =
    let d = c.args.dfa.now in
    let is = c.deref-in-loop-state.ensures.value ∙ c.in_ok-transitions_into.ensures.transitions in
    let within = transitions-within d c.loop-state.starts.items (listed c.loop-state.letters) c.loop-state.targets.items c.loop-state.state c.loop-state.invariant.laid c.deref-in-loop-state.result.now is
    (omega (arith, c.loop-state-test.true, c.loop-state.auto.state-end, c.states-states.ensures.value)) in
    omega (arith, c.len.ensures, c.add_targets.new.targets.ok, ap length c.in_ok-add_targets.ensures, within, c.transitions-count.ensures, c.if-count.false)

pub loop-state-preserved : goal.loop-state-preserved
loop-state-preserved c =
    let d = c.args.dfa.now in
    let starts = c.loop-state.starts.items in
    let letters = listed c.loop-state.letters in
    let targets = c.loop-state.targets.items in
    let count = c.loop-state.state in
    let es = c.deref-in-loop-state.result.now in
    let is = c.deref-in-loop-state.ensures.value ∙ c.in_ok-transitions_into.ensures.transitions in
    let less : count < states_of d = omega (arith, c.loop-state-test.true, c.loop-state.auto.state-end, c.states-states.ensures.value) in
    let within = transitions-within d starts letters targets count c.loop-state.invariant.laid es is less in
    let end : c.len.result ≡ length (targets ++ map (λ (e : Transition). e.target) es) = omega (arith, c.len.ensures, c.add_targets.new.targets.ok, ap length c.in_ok-add_targets.ensures) in
    let added : listed c.add.new.self ≡ with_letters es letters = c.in_ok-add.ensures ∙ ap (λ (row : List Transition). with_letters row letters) (c.deref.ensures.value ∙ sym c.deref-in-loop-state.ensures.value) in
    record {
      laid = subst (λ (ls : Option (List ℕ)). AreLaidOut d c.push-in-loop-state.new.self.items ls c.add_targets.new.targets.items (count + 1)) (sym added)
          (subst (λ (ts : List ℕ). AreLaidOut d c.push-in-loop-state.new.self.items (with_letters es letters) ts (count + 1)) (sym c.in_ok-add_targets.ensures)
          (subst (λ (ss : List ℕ). AreLaidOut d ss (with_letters es letters) (targets ++ map (λ (e : Transition). e.target) es) (count + 1)) (sym (c.in_ok-push-2.ensures.items ∙ ap (λ (n : ℕ). starts ++ n ∷ []) end))
          (AreLaidOut-more d starts letters targets count c.loop-state.invariant.laid es is
          (λ none. subst IsInPlace (sym is) (IsInPlace-full d c.states-states.ensures.table (c.loop-state.invariant.full none) count less))
          (omega (arith, within, c.transitions-count.ensures, c.if-count.false)))));
      full = λ none. c.loop-state.invariant.full (with_none es letters (sym added ∙ none));
    }

pub transitions_into-requires : goal.transitions_into-requires
transitions_into-requires c = omega (arith, c.loop-state-test.true, c.loop-state.auto.state-end, c.states-states.ensures.value)

pub returns : goal.returns
returns c =
    subst (λ (n : ℕ). AreLaidOut c.args.dfa.now c.loop-state.starts.items (listed c.loop-state.letters) c.loop-state.targets.items n)
    (omega (arith, c.loop-state-test.false, c.loop-state.auto.state-end, c.states-states.ensures.value)) c.loop-state.invariant.laid
