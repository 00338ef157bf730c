-- Where letters lead among the states of a table, those of an automaton with their links in prefix.
use Rattle.std.proofs.Common.{◌≡◌, ◌↔◌, ◌⊎◌, inl, inr, ◌&&◌, ℕ, ◌+◌, ◌-◌, ◌<◌, Bool, true, List, ◌++◌, map, Option, Some, sym, ap, ◌∙◌, subst, arith}
use Rattle.std.specs.List.{Contains}
use Rattle.std.proofs.lemmas.List.{get_or-append_right, get_or-map, get_or_append_left}
use Rattle.digit_tuple.specs.Automaton as branching
use Rattle.digit_tuple.specs.Automaton.{Branch, Branching, branch_of, no_branch}
use Rattle.digit_tuple.specs.Deterministic.{Automaton, IsTable, accepting_of, letters_of, no_state, state_of, states_of, step_of, transitions_of}
use Rattle.digit_tuple.specs.Reversed.{branch_at, transition_to}
use Rattle.digit_tuple.specs.declared.transitions.Transition.{Transition}
use Rattle.digit_tuple.proofs.DfaLemmas.{row_at}
use Rattle.digit_tuple.proofs.MemberLemmas.{Contains-from_map, Contains-map}
use Rattle.digit_tuple.proofs.ReversedLemmas.{contains_from_target_by, target_by-contains}
use Rattle.lang_ops.specs.LinkedRows.{AreLinked, AreLinkedRows, IsLink}
use Rattle.lang_ops.specs.ShiftedRows.{shifted_state, shifted_transition}
use Rattle.lang_ops.proofs.LinkedPaths.{LeadsLinked}
use Rattle.lang_ops.proofs.ShiftedPaths.{LeadsShifted}

-- transitions with links lead where the automaton's do, and to the link
pub linked_steps : (a : Automaton) → IsTable (letters_of a) a.states → (link : Option ℕ) (p : ℕ) → p < states_of a → (new : List Transition) → AreLinked a link (transitions_of a p) new → (c q : ℕ)
    → Contains new (transition_to c q) ↔ ((step_of a p c ≡ Some q) ⊎ ((link ≡ Some q) × ((t : ℕ) × (step_of a p c ≡ Some t) × (accepting_of a t ≡ true))))
linked_steps a table link p low new are c q = (λ there. forth ((are.members (transition_to c q)).0 there), λ found. (are.members (transition_to c q)).1 (back found))
  where
    step : (t : ℕ) → Contains (transitions_of a p) (transition_to c t) → step_of a p c ≡ Some t
    step t there = target_by-contains (transitions_of a p) c t (row_at a p table low).ascending there

    forth : Contains (transitions_of a p) (transition_to c q) ⊎ IsLink a link (transitions_of a p) (transition_to c q) → (step_of a p c ≡ Some q) ⊎ ((link ≡ Some q) × ((t : ℕ) × (step_of a p c ≡ Some t) × (accepting_of a t ≡ true)))
    forth (inl there) = inl (step q there)
    forth (inr found) = inr (found.0, (found.1.0, step found.1.0 found.1.1, found.1.2))

    back : (step_of a p c ≡ Some q) ⊎ ((link ≡ Some q) × ((t : ℕ) × (step_of a p c ≡ Some t) × (accepting_of a t ≡ true))) → Contains (transitions_of a p) (transition_to c q) ⊎ IsLink a link (transitions_of a p) (transition_to c q)
    back (inl is) = inl (contains_from_target_by (transitions_of a p) c q is)
    back (inr found) = inr (found.0, (found.1.0, contains_from_target_by (transitions_of a p) c found.1.0 found.1.1, found.1.2))

module _ (a : Automaton) (table : IsTable (letters_of a) a.states) (link : Option ℕ) (ends : Bool) (prefix more : List Branch) (rows : AreLinkedRows a link ends prefix (states_of a)) (n : Branching) (states : n.states ≡ prefix ++ more) where
  prefix_branch : (q : ℕ) → q < states_of a → branch_of n q ≡ branch_at prefix q
  prefix_branch q low = ap (λ (bs : List Branch). branch_at bs q) states ∙ get_or_append_left prefix more no_branch q (omega (arith, low, rows.size))

  pub LeadsLinked-prefix : LeadsLinked a link n
  LeadsLinked-prefix p c q low = subst (λ (b : Branch). Contains b.transitions (transition_to c q) ↔ ((step_of a p c ≡ Some q) ⊎ ((link ≡ Some q) × ((t : ℕ) × (step_of a p c ≡ Some t) × (accepting_of a t ≡ true)))))
      (sym (prefix_branch p low)) (linked_steps a table link p low (branch_at prefix p).transitions (rows.transitions_are p low) c q)

  pub accepting_of-prefix : (q : ℕ) → q < states_of a → branching.accepting_of n q ≡ (ends && accepting_of a q)
  accepting_of-prefix q low = ap (λ (b : Branch). b.accepting) (prefix_branch q low) ∙ rows.accepting_are q low

  -- the states after
  pub back_branch : (r : ℕ) → branch_of n (r + states_of a) ≡ branch_at more r
  back_branch r =
      ap (λ (bs : List Branch). branch_at bs (r + states_of a)) states ∙ get_or-append_right prefix more (states_of a) (r + states_of a) no_branch rows.size (omega arith)
      ∙ ap (branch_at more) (omega arith)

module _ (b : Automaton) (table : IsTable (letters_of b) b.states) (before : ℕ) (n : Branching) (back : (r : ℕ) → branch_of n (r + before) ≡ branch_at (map (shifted_state before) b.states) r) where
  shifted_branch : (r : ℕ) → r < states_of b → branch_of n (r + before) ≡ shifted_state before (state_of b r)
  shifted_branch r low = back r ∙ get_or-map (shifted_state before) b.states r no_state no_branch low

  pub LeadsShifted-back : LeadsShifted b before n
  LeadsShifted-back p c q low = subst (λ (s : Branch). Contains s.transitions (transition_to c q) ↔ ((r : ℕ) × (q ≡ r + before) × (step_of b p c ≡ Some r)))
      (sym (shifted_branch p low)) (forth, back_to)
    where
      forth : Contains (map (shifted_transition before) (transitions_of b p)) (transition_to c q) → (r : ℕ) × (q ≡ r + before) × (step_of b p c ≡ Some r)
      forth there =
          let found = Contains-from_map (shifted_transition before) (transitions_of b p) (transition_to c q) there in
          let letter : found.0.letter ≡ c = ap (λ (e : Transition). e.letter) found.2 in
          let inside : Contains (transitions_of b p) (transition_to c found.0.target) = subst (λ k. Contains (transitions_of b p) (transition_to k found.0.target)) letter found.1 in
          (found.0.target, sym (ap (λ (e : Transition). e.target) found.2), target_by-contains (transitions_of b p) c found.0.target (row_at b p table low).ascending inside)

      back_to : (r : ℕ) × (q ≡ r + before) × (step_of b p c ≡ Some r) → Contains (map (shifted_transition before) (transitions_of b p)) (transition_to c q)
      back_to found = subst (λ k. Contains (map (shifted_transition before) (transitions_of b p)) (transition_to c k)) (sym found.1)
          (Contains-map (shifted_transition before) (transitions_of b p) (transition_to c found.0) (contains_from_target_by (transitions_of b p) c found.0 found.2))

  pub accepting_of-back : (r : ℕ) → r < states_of b → branching.accepting_of n (r + before) ≡ accepting_of b r
  accepting_of-back r low = ap (λ (s : Branch). s.accepting) (shifted_branch r low)
