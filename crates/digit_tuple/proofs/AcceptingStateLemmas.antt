-- The accepting states of an automaton, and flags of them.
use Rattle.std.proofs.Common.{◌≡◌, ℕ, ◌+◌, ◌<◌, ◌≤◌, Bool, true, false, map, List, [], ◌∷◌, ◌++◌, get_or, ◌↔◌, ◌⊎◌, inl, inr, sym, ap, ◌∙◌, subst, true≢false, arith}
use Rattle.std.specs.List.{AllPairs, Contains, range_with_len}
use Rattle.std.proofs.lemmas.Bool.{cases_lt}
use Rattle.std.proofs.lemmas.List.{get_or_past}
use Rattle.std.proofs.lemmas.List.FromFn.{get_or-map-range_with_len, length-map-range_with_len, map-range_with_len_more}
use Rattle.std.proofs.lemmas.List.Elements.{All-contains_itself, Contains-push_cases, Contains-append_left, Contains-push}
use Rattle.std.proofs.lemmas.List.Quantifiers.{all_pairs_push}
use Rattle.digit_tuple.specs.Deterministic.{Automaton, State, no_state, accepting_of, states_of}

-- the accepting states below a number, in order
pub record AreAcceptingTo (t : Automaton) (set : List ℕ) (count : ℕ) : Type 0 where
  pub ascending : AllPairs (λ p q. p < q) set
  pub members : (q : ℕ) → Contains set q ↔ ((q < count) × (accepting_of t q ≡ true))

-- one more that accepts
pub AreAcceptingTo-take : (t : Automaton) (set : List ℕ) (state : ℕ) → AreAcceptingTo t set state → accepting_of t state ≡ true → AreAcceptingTo t (set ++ state ∷ []) (state + 1)
AreAcceptingTo-take t set state to accepts = record {
  ascending = all_pairs_push (λ p q. p < q) set state to.ascending (λ k d within. ((to.members (get_or set k d)).0 (All-contains_itself set k d within)).0);
  members = λ q. ((λ there. forth q (Contains-push_cases set state q there)), (λ both. back q (cases_lt q state) both.0 both.1));
}
  where
    forth : (q : ℕ) → Contains set q ⊎ (state ≡ q) → (q < state + 1) × (accepting_of t q ≡ true)
    forth q (inl before) = let both = (to.members q).0 before in (omega (arith, both.0), both.1)
    forth q (inr is) = (omega arith, subst (λ n. accepting_of t n ≡ true) is accepts)

    back : (q : ℕ) → (q < state) ⊎ (state ≤ q) → q < state + 1 → accepting_of t q ≡ true → Contains (set ++ state ∷ []) q
    back q (inl less) within taken = Contains-append_left set (state ∷ []) q ((to.members q).1 (less, taken))
    back q (inr more) within taken = let is : state ≡ q = omega arith in subst (Contains (set ++ state ∷ [])) is (Contains-push set state)

-- one more that does not
pub AreAcceptingTo-skip : (t : Automaton) (set : List ℕ) (state : ℕ) → AreAcceptingTo t set state → accepting_of t state ≡ false → AreAcceptingTo t set (state + 1)
AreAcceptingTo-skip t set state to refuses = record {
  ascending = to.ascending;
  members = λ q. ((λ there. let both = (to.members q).0 there in (omega (arith, both.0), both.1)), (λ both. back q (cases_lt q state) both.0 both.1));
}
  where
    back : (q : ℕ) → (q < state) ⊎ (state ≤ q) → q < state + 1 → accepting_of t q ≡ true → Contains set q
    back q (inl less) within taken = (to.members q).1 (less, taken)
    back q (inr more) within taken = let is : q ≡ state = omega arith in absurd (true≢false (sym taken ∙ ap (accepting_of t) is ∙ refuses))

-- flags of the accepting states
pub flag-accepting : (d : Automaton) (flags : List Bool) → flags ≡ map (accepting_of d) (range_with_len 0 (states_of d)) → (q : ℕ) → get_or flags q false ≡ accepting_of d q
flag-accepting d flags are q = ap (λ (fs : List Bool). get_or fs q false) are ∙ by (cases_lt q (states_of d))
  where
    by : (q < states_of d) ⊎ (states_of d ≤ q) → get_or (map (accepting_of d) (range_with_len 0 (states_of d))) q false ≡ accepting_of d q
    by (inl less) = get_or-map-range_with_len (accepting_of d) 0 (states_of d) q q false less (omega arith)
    by (inr past) =
        get_or_past (map (accepting_of d) (range_with_len 0 (states_of d))) q false (omega (arith, past, length-map-range_with_len (accepting_of d) 0 (states_of d)))
        ∙ sym (ap (λ (s : State). s.accepting) (get_or_past d.states q no_state past))

-- one more flag
pub flags-more : (d : Automaton) (flags new : List Bool) (state : ℕ) (flag : Bool) → flags ≡ map (accepting_of d) (range_with_len 0 state) → flag ≡ accepting_of d state → new ≡ flags ++ flag ∷ []
    → new ≡ map (accepting_of d) (range_with_len 0 (state + 1))
flags-more d flags new state flag are is pushed =
    pushed ∙ ap (λ fs. fs ++ flag ∷ []) are ∙ ap (λ b. map (accepting_of d) (range_with_len 0 state) ++ b ∷ []) is ∙ sym (map-range_with_len_more (accepting_of d) 0 state state (omega arith))
