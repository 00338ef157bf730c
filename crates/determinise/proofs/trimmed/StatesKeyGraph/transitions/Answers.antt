use Rattle.std.proofs.Common.{◌≡◌, map, sym, ap, ◌∙◌, subst, arith}
use Rattle.std.proofs.lemmas.List.{take_all}
use Rattle.digit_tuple.specs.Deterministic.{IsRow, letters_of, states_of, transitions_of}
use Rattle.digit_tuple.specs.Keys.{AreKeyTransitions}
use Rattle.determinise.specs.Trimmed.{state_after, state_in_key}
use Rattle.determinise.proofs.TrimmedLemmas.{AreKeyTransitions-transitions, key_transition_of}
use Rattle.determinise.proofs.trimmed.StatesKeyGraph.transitions.Goals as goal

pub returns : goal.returns
returns c =
    let d = c.args.self.now.dfa.now in
    let items = c.deref-transition-items.result.now in
    let all : c.loop-transition.out ≡ map key_transition_of items = c.loop-transition.invariant ∙ ap (map key_transition_of) (take_all c.loop-transition.transition-index items (omega arith)) in
    let row : items ≡ transitions_of d (state_in_key c.args.key.now) = c.deref-transition-items.ensures.value ∙ c.in_ok-transitions_into.ensures.transitions in
    let is_row : IsRow (letters_of d) (states_of d) (transitions_of d (state_in_key c.args.key.now)) = subst (IsRow (letters_of d) (states_of d)) c.in_ok-transitions_into.ensures.transitions c.in_ok-transitions_into.ensures.row in
    subst (AreKeyTransitions (letters_of d) (state_after d c.args.key.now)) (sym (all ∙ ap (map key_transition_of) row))
    (AreKeyTransitions-transitions (letters_of d) (states_of d) (transitions_of d (state_in_key c.args.key.now)) is_row)
