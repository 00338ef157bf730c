-- The states from which transitions lead to some states are those to which the transitions of the reversed automaton lead from these.
use Rattle.std.proofs.Common.{◌≡◌, ◌==◌, ℕ, ◌<◌, true, false, List, get_or, map, Some, refl, sym, ap, ◌∙◌, subst, arith}
use Rattle.std.specs.List.{All, Contains, list_any}
use Rattle.std.proofs.lemmas.Bool.{eq-eqb, eqb-true}
use Rattle.std.proofs.lemmas.List.Elements.{All-contains_itself, All-weaker}
use Rattle.digit_tuple.specs.Automaton as branching
use Rattle.digit_tuple.specs.Automaton.{Branching}
use Rattle.digit_tuple.specs.Deterministic.{Automaton, IsTable, letters_of, states_of, step_of, transitions_of}
use Rattle.digit_tuple.specs.Reversed.{IsReversal}
use Rattle.digit_tuple.specs.declared.transitions.Transition.{Transition}
use Rattle.digit_tuple.proofs.MemberLemmas.{Contains-flat_map, Contains-from_flat_map, Contains-from_map, Contains-map, contains_from_list_any, list_any-contains}
use Rattle.determinise.proofs.ReversalLemmas.{same_bool}
use Rattle.endless.proofs.LiveLemmas.{step_of_transition, transition_there}
use Rattle.word_walk.specs.FewStates.{flags_of, has_state}
use Rattle.word_walk.specs.Sources.{AreSources, LeadsBack, targets_from}
use Rattle.word_walk.proofs.FewStateLemmas.{contains_from_has_state, flag_at, has_state-contains, length-flags_of}
use Rattle.word_walk.proofs.LevelLemmas.{target_within}

-- the target of a transition is below a number if all are
target_below : {m : ℕ} (q : ℕ) (es : List Transition) → All (λ e. e.target < m) es → (e : Transition) → Contains es e → e.target ≡ q → q < m
target_below q es all e there is = omega (arith, all there.0 e there.1, ap (λ (t : Transition). t.target) there.2, is)

module _ (d : Automaton) (table : IsTable (letters_of d) d.states) where
  pub LeadsBack-reversal : (n : Branching) → IsReversal d n → LeadsBack d n
  LeadsBack-reversal n turned = record {
    states = turned.states;
    within = λ q. All-weaker (Contains (branching.transitions_of n q)) (λ e. e.target < states_of d) (λ e there. ((turned.leads q e.letter e.target).0 there).0) (branching.transitions_of n q) (All-contains_itself (branching.transitions_of n q));
    sources = λ q p inside. same_bool (list_any (λ e. e.target == p) (branching.transitions_of n q)) (list_any (λ e. e.target == q) (transitions_of d p)) (forth q p) (back q p inside);
  }
    where
      forth : (q p : ℕ) → list_any (λ e. e.target == p) (branching.transitions_of n q) ≡ true → list_any (λ e. e.target == q) (transitions_of d p) ≡ true
      forth q p has =
          let found = contains_from_list_any (λ (e : Transition). e.target == p) (branching.transitions_of n q) has in
          let leads = (turned.leads q found.0.letter found.0.target).0 found.1 in
          let step : step_of d p found.0.letter ≡ Some q = subst (λ (r : ℕ). step_of d r found.0.letter ≡ Some q) (eqb-true found.0.target p found.2) leads.1 in
          let there = transition_there (transitions_of d p) found.0.letter q step in
          list_any-contains (λ (e : Transition). e.target == q) (transitions_of d p) there.0 there.1 (eq-eqb there.0.target q there.3)

      back : (q p : ℕ) → p < states_of d → list_any (λ e. e.target == q) (transitions_of d p) ≡ true → list_any (λ e. e.target == p) (branching.transitions_of n q) ≡ true
      back q p inside has =
          let found = contains_from_list_any (λ (e : Transition). e.target == q) (transitions_of d p) has in
          let step : step_of d p found.0.letter ≡ Some q = step_of_transition d p table inside found.0 found.1 ∙ ap Some (eqb-true found.0.target q found.2) in
          let source : Transition = record { letter = found.0.letter; target = p } in
          list_any-contains (λ (e : Transition). e.target == p) (branching.transitions_of n q) source ((turned.leads q found.0.letter p).1 (inside, step)) (eq-eqb p p refl)

  module _ (n : Branching) (backwards : LeadsBack d n) (states : List ℕ) where
    -- a state that is led to has a transition to one of the states
    record IsSource (q : ℕ) : Type 0 where
      within : q < states_of d
      leads : All (λ p. p < states_of d) states → list_any (λ e. get_or (flags_of (states_of d) states) e.target false) (transitions_of d q) ≡ true

    from_target : (q : ℕ) → Contains (targets_from n states) q → IsSource q
    from_target q there =
        let found = Contains-from_flat_map (λ (p : ℕ). map (λ (e : Transition). e.target) (branching.transitions_of n p)) states q there in
        let p : ℕ = found.0 in
        let at = Contains-from_map (λ (e : Transition). e.target) (branching.transitions_of n p) q found.2 in
        let within : q < states_of d = target_below q (branching.transitions_of n p) (backwards.within p) at.0 at.1 at.2 in
        let has : list_any (λ (e : Transition). e.target == p) (transitions_of d q) ≡ true
        = sym (backwards.sources p q within) ∙ list_any-contains (λ (e : Transition). e.target == q) (branching.transitions_of n p) at.0 at.1 (eq-eqb at.0.target q at.2) in
        let leads = contains_from_list_any (λ (e : Transition). e.target == p) (transitions_of d q) has in
        record {
          within = within;
          leads = λ all.
              let inside : p < states_of d = omega (arith, all found.1.0 p found.1.1, found.1.2) in
              list_any-contains (λ e. get_or (flags_of (states_of d) states) e.target false) (transitions_of d q) leads.0 leads.1
              (ap (λ (r : ℕ). get_or (flags_of (states_of d) states) r false) (eqb-true leads.0.target p leads.2) ∙ flag_at (states_of d) states p inside ∙ has_state-contains states p found.1);
        }

    to_target : (q : ℕ) → q < states_of d → list_any (λ e. get_or (flags_of (states_of d) states) e.target false) (transitions_of d q) ≡ true → Contains (targets_from n states) q
    to_target q within leads =
        let found = contains_from_list_any (λ (e : Transition). get_or (flags_of (states_of d) states) e.target false) (transitions_of d q) leads in
        let p : ℕ = found.0.target in
        let member : Contains states p = contains_from_has_state states p (sym (flag_at (states_of d) states p (target_within d table q within found.0 found.1)) ∙ found.2) in
        let has : list_any (λ (e : Transition). e.target == q) (branching.transitions_of n p) ≡ true
        = backwards.sources p q within ∙ list_any-contains (λ (e : Transition). e.target == p) (transitions_of d q) found.0 found.1 (eq-eqb p p refl) in
        let source = contains_from_list_any (λ (e : Transition). e.target == q) (branching.transitions_of n p) has in
        Contains-flat_map (λ (r : ℕ). map (λ (e : Transition). e.target) (branching.transitions_of n r)) states p q member
        (subst (Contains (map (λ (e : Transition). e.target) (branching.transitions_of n p))) (eqb-true source.0.target q source.2) (Contains-map (λ (e : Transition). e.target) (branching.transitions_of n p) source.0 source.1))

    pub targets-within : All (λ q. q < states_of d) (targets_from n states)
    targets-within = All-weaker (Contains (targets_from n states)) (λ q. q < states_of d) (λ q there. (from_target q there).within) (targets_from n states) (All-contains_itself (targets_from n states))

    pub AreSources-targets : All (λ q. q < states_of d) states → AreSources d (flags_of (states_of d) states) (flags_of (states_of d) (targets_from n states))
    AreSources-targets all = record {
      width = length-flags_of (states_of d) (targets_from n states);
      flag_is = λ q within. flag_at (states_of d) (targets_from n states) q within
          ∙ same_bool (has_state (targets_from n states) q) (list_any (λ e. get_or (flags_of (states_of d) states) e.target false) (transitions_of d q))
          (λ has. (from_target q (contains_from_has_state (targets_from n states) q has)).leads all)
          (λ leads. has_state-contains (targets_from n states) q (to_target q within leads));
    }
