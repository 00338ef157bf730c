-- States with links: their transitions, and the tables that they make.
use Rattle.std.proofs.Common.{◌≡◌, ◌↔◌, ◌⊎◌, inl, inr, ◌&&◌, ℕ, ◌+◌, ◌<◌, ◌≤◌, Bool, true, false, if◌then◌else◌, List, [], ◌∷◌, ◌++◌, get_or, Option, Some, refl, sym, ap, ◌∙◌, subst, arith}
use Rattle.std.specs.List.{All, Contains, flat_map}
use Rattle.std.proofs.lemmas.Bool.{cases_lt}
use Rattle.std.proofs.lemmas.List.{get_or_append_left, get_or_push, length_push}
use Rattle.std.proofs.lemmas.List.Elements.{All-contains, All-contains_itself, All-from_get_or}
use Rattle.std.proofs.lemmas.Option.{same_Some}
use Rattle.digit_tuple.specs.Automaton as branching
use Rattle.digit_tuple.specs.Automaton.{Branch, no_branch}
use Rattle.digit_tuple.specs.Deterministic.{Automaton, IsRow, IsTable, accepting_of, letters_of, states_of, transitions_of}
use Rattle.digit_tuple.specs.Reversed.{branch_at, transition_to}
use Rattle.digit_tuple.specs.declared.transitions.Transition.{Transition}
use Rattle.digit_tuple.proofs.DfaLemmas.{row_at}
use Rattle.digit_tuple.proofs.MemberLemmas.{Contains-cases, Contains-flat_map, Contains-from_flat_map, Contains-head, Contains-none, Contains-tail}
use Rattle.lang_ops.specs.LinkedRows.{AreLinked, AreLinkedRows, IsLink}

-- a transition, and its link
abbrev pub with_link : Automaton → ℕ → Transition → List Transition
with_link d link e = e ∷ (if accepting_of d e.target then transition_to e.letter link ∷ [] else [])

-- the transitions and their links are those that the code lists
pub linked_members : (d : Automaton) (link : ℕ) (es : List Transition) (e : Transition) → Contains (flat_map (with_link d link) es) e ↔ (Contains es e ⊎ IsLink d (Some link) es e)
linked_members d link es e = (forth, back)
  where
    forth : Contains (flat_map (with_link d link) es) e → Contains es e ⊎ IsLink d (Some link) es e
    forth there = let found = Contains-from_flat_map (with_link d link) es e there in
        by found.0 found.1 (Contains-cases found.0 (if accepting_of d found.0.target then transition_to found.0.letter link ∷ [] else []) e found.2)
      where
        linked : (x : Transition) → Contains es x → accepting_of d x.target ≡ true → (transition_to x.letter link ≡ e) ⊎ Contains [] e → IsLink d (Some link) es e
        linked x inside accepts (inl same) =
            let letter : x.letter ≡ e.letter = ap (λ (y : Transition). y.letter) same in
            (ap Some (ap (λ (y : Transition). y.target) same), (x.target, subst (λ k. Contains es (transition_to k x.target)) letter inside, accepts))
        linked x inside accepts (inr none) = absurd (Contains-none e none)

        flagged : (x : Transition) → Contains es x → (b : Bool) → accepting_of d x.target ≡ b → Contains (if b then transition_to x.letter link ∷ [] else []) e → IsLink d (Some link) es e
        flagged x inside true is there = linked x inside is (Contains-cases (transition_to x.letter link) [] e there)
        flagged x inside false is there = absurd (Contains-none e there)

        by : (x : Transition) → Contains es x → (x ≡ e) ⊎ Contains (if accepting_of d x.target then transition_to x.letter link ∷ [] else []) e → Contains es e ⊎ IsLink d (Some link) es e
        by x inside (inl same) = inl (subst (Contains es) same inside)
        by x inside (inr there) = inr (flagged x inside (accepting_of d x.target) refl there)

    back : Contains es e ⊎ IsLink d (Some link) es e → Contains (flat_map (with_link d link) es) e
    back (inl there) = Contains-flat_map (with_link d link) es e e there (Contains-head e _)
    back (inr found) =
        let x = transition_to e.letter found.1.0 in
        let target : link ≡ e.target = same_Some link e.target found.0 in
        let last : Contains (transition_to e.letter link ∷ []) e = subst (λ k. Contains (transition_to e.letter link ∷ []) (transition_to e.letter k)) target (Contains-head (transition_to e.letter link) []) in
        Contains-flat_map (with_link d link) es x e found.1.1 (Contains-tail x _ e (subst (λ b. Contains (if b then transition_to e.letter link ∷ [] else []) e) (sym found.1.2) last))

-- one more state
pub AreLinkedRows-push : (d : Automaton) (link : Option ℕ) (ends : Bool) (rows : List Branch) (count : ℕ) (row : Branch) → AreLinkedRows d link ends rows count
    → row.accepting ≡ (ends && accepting_of d count) → AreLinked d link (transitions_of d count) row.transitions → AreLinkedRows d link ends (rows ++ row ∷ []) (count + 1)
AreLinkedRows-push d link ends rows count row are flag transitions = record {
  size = omega (arith, length_push rows row, are.size);
  accepting_are = λ q low. flag_of q low (cases_lt q count);
  transitions_are = λ q low. transitions_of_row q low (cases_lt q count);
}
  where
    before : (q : ℕ) → q < count → branch_at (rows ++ row ∷ []) q ≡ branch_at rows q
    before q less = get_or_append_left rows (row ∷ []) no_branch q (omega (arith, less, are.size))

    here : (q : ℕ) → count ≡ q → branch_at (rows ++ row ∷ []) q ≡ row
    here q is = get_or_push rows row no_branch q (are.size ∙ is)

    flag_of : (q : ℕ) → q < count + 1 → (q < count) ⊎ (count ≤ q) → (branch_at (rows ++ row ∷ []) q).accepting ≡ (ends && accepting_of d q)
    flag_of q low (inl less) = ap (λ (b : Branch). b.accepting) (before q less) ∙ are.accepting_are q less
    flag_of q low (inr more) = let is : count ≡ q = omega (arith, low, more) in ap (λ (b : Branch). b.accepting) (here q is) ∙ flag ∙ ap (λ k. ends && accepting_of d k) is

    transitions_of_row : (q : ℕ) → q < count + 1 → (q < count) ⊎ (count ≤ q) → AreLinked d link (transitions_of d q) (branch_at (rows ++ row ∷ []) q).transitions
    transitions_of_row q low (inl less) = subst (λ (b : Branch). AreLinked d link (transitions_of d q) b.transitions) (sym (before q less)) (are.transitions_are q less)
    transitions_of_row q low (inr more) =
        let is : count ≡ q = omega (arith, low, more) in
        subst (λ (b : Branch). AreLinked d link (transitions_of d q) b.transitions) (sym (here q is)) (subst (λ k. AreLinked d link (transitions_of d k) row.transitions) is transitions)

module _ (d : Automaton) (table : IsTable (letters_of d) d.states) (link : Option ℕ) (total : ℕ) (enough : states_of d ≤ total) (within : (l : ℕ) → link ≡ Some l → l < total) where
  -- transitions with links are those of a state of a table of so many
  pub IsRow-linked : (p : ℕ) → p < states_of d → (new : List Transition) → AreLinked d link (transitions_of d p) new → branching.IsRow (letters_of d) total new
  IsRow-linked p low new are = record {
    in_range = λ k z inside. let e = get_or new k z in range e ((are.members e).0 (All-contains_itself new k z inside));
    ascending = are.ascending;
  }
    where
      known : (e : Transition) → Contains (transitions_of d p) e → (e.letter < letters_of d) × (e.target < states_of d)
      known e there = All-contains (λ (x : Transition). (x.letter < letters_of d) × (x.target < states_of d)) (transitions_of d p) e (row_at d p table low).in_range there

      range : (e : Transition) → Contains (transitions_of d p) e ⊎ IsLink d link (transitions_of d p) e → (e.letter < letters_of d) × (e.target < total)
      range e (inl there) = let in_row = known e there in (in_row.0, omega (arith, in_row.1, enough))
      range e (inr found) = let in_row = known (transition_to e.letter found.1.0) found.1.1 in (in_row.0, within e.target found.0)

  pub AllRows-linked : (ends : Bool) (rows : List Branch) → AreLinkedRows d link ends rows (states_of d) → All (λ (b : Branch). branching.IsRow (letters_of d) total b.transitions) rows
  AllRows-linked ends rows are = All-from_get_or (λ (b : Branch). branching.IsRow (letters_of d) total b.transitions) rows no_branch
      (λ q inside. let low : q < states_of d = omega (arith, inside, are.size) in IsRow-linked q low (branch_at rows q).transitions (are.transitions_are q low))
