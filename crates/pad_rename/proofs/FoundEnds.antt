-- What is found in the transitions of one state more: whether one leads back to the initial state, and whether a letter has none.
use Rattle.std.proofs.Common.{◌≡◌, ◌==◌, ◌&&◌, ℕ, ◌+◌, ◌<◌, ◌≤◌, Bool, true, false, not, List, length, None, Some, ◌⊎◌, inl, inr, refl, sym, ap, ◌∙◌, true≢false, arith}
use Rattle.std.specs.List.{list_any}
use Rattle.std.proofs.lemmas.Bool.{cases_lt, eqb-true}
use Rattle.std.proofs.lemmas.Option.{none-some}
use Rattle.digit_tuple.specs.declared.transitions.Transition.{Transition}
use Rattle.digit_tuple.specs.Deterministic.{Automaton, IsRow, transitions_of, letters_of, states_of, step_of, target_by}
use Rattle.digit_tuple.specs.Reversed.{transition_to}
use Rattle.digit_tuple.proofs.MemberLemmas.{contains_from_list_any, list_any-contains}
use Rattle.digit_tuple.proofs.ReversedLemmas.{contains_from_target_by, target_by-contains}
use Rattle.digit_tuple.proofs.RowLemmas.{IsFrom, IsFrom-row, full_of, gap_of}
use Rattle.pad_rename.specs.ZerosStay.{AreEnds, HasGap, HasReturn}

-- whether a transition of the state leads to the initial one, other than the zero letter's from there
abbrev pub is_return : ℕ → Transition → Bool
is_return q transition = (transition.target == 0) && not ((q == 0) && (transition.letter == 0))

-- both parts of a test
both : (b c : Bool) → (b && c) ≡ true → (b ≡ true) × (c ≡ true)
both true true is = (refl, refl)
both true false is = absurd (true≢false (sym is))
both false c is = absurd (true≢false (sym is))

other_from : (q a : ℕ) → not ((q == 0) && (a == 0)) ≡ true → ¬ ((q ≡ 0) × (a ≡ 0))
other_from q a is same = true≢false (sym is ∙ ap (λ n. not ((n == 0) && (a == 0))) same.0 ∙ ap (λ n. not (n == 0)) same.1)

other_to : (q a : ℕ) → ¬ ((q ≡ 0) × (a ≡ 0)) → not ((q == 0) && (a == 0)) ≡ true
other_to q a other = by (q == 0) (a == 0) refl refl
  where
    by : (b c : Bool) → (q == 0) ≡ b → (a == 0) ≡ c → not (b && c) ≡ true
    by true true one two = absurd (other (eqb-true q 0 one, eqb-true a 0 two))
    by true false one two = refl
    by false c one two = refl

module _ (d : Automaton) (q : ℕ) (row : List Transition) (is : row ≡ transitions_of d q) (fits : IsRow (letters_of d) (states_of d) row) where
  step_is : (a : ℕ) → step_of d q a ≡ target_by row a
  step_is a = ap (λ (es : List Transition). target_by es a) (sym is)

  return_from : list_any (is_return q) row ≡ true → (a : ℕ) × ((step_of d q a ≡ Some 0) × ¬ ((q ≡ 0) × (a ≡ 0)))
  return_from found =
      let e = contains_from_list_any (is_return q) row found in
      let parts = both (e.0.target == 0) (not ((q == 0) && (e.0.letter == 0))) e.2 in
      (e.0.letter, (step_is e.0.letter ∙ target_by-contains row e.0.letter e.0.target fits.ascending e.1 ∙ ap Some (eqb-true e.0.target 0 parts.0), other_from q e.0.letter parts.1))

  return_to : (a : ℕ) → step_of d q a ≡ Some 0 → ¬ ((q ≡ 0) × (a ≡ 0)) → list_any (is_return q) row ≡ true
  return_to a step other = list_any-contains (is_return q) row (transition_to a 0) (contains_from_target_by row a 0 (sym (step_is a) ∙ step)) (other_to q a other)

  from_first : IsFrom (letters_of d) 0 row
  from_first = IsFrom-row (letters_of d) 0 row (λ k e within. (fits.in_range k e within).0) fits.ascending (λ k e within. omega arith)

  gap_from : length row < letters_of d → (a : ℕ) × ((a < letters_of d) × (step_of d q a ≡ None))
  gap_from few = let found = gap_of (letters_of d) 0 row from_first (omega (arith, few)) in (found.0, (found.2, step_is found.0 ∙ found.3))

  no_gap : letters_of d ≤ length row → (a : ℕ) → a < letters_of d → ¬ (step_of d q a ≡ None)
  no_gap all a small none = let found = full_of (letters_of d) 0 row from_first (omega (arith, all)) a (omega arith) small in none-some found.0 (sym none ∙ step_is a ∙ found.1)

  module _ (returns gap more_returns more_gap : Bool) (ends : AreEnds d q returns gap)
      (here : ((list_any (is_return q) row ≡ true) × (more_returns ≡ true)) ⊎ ((list_any (is_return q) row ≡ false) × (more_returns ≡ returns)))
      (short : ((length row < letters_of d) × (more_gap ≡ true)) ⊎ ((letters_of d ≤ length row) × (more_gap ≡ gap))) where
    later_return : HasReturn d q → HasReturn d (q + 1)
    later_return found = (found.0, (found.1.0, omega (arith, found.1.1), found.1.2, found.1.3))

    later_gap : HasGap d q → HasGap d (q + 1)
    later_gap found = (found.0, (found.1.0, omega (arith, found.1.1), found.1.2, found.1.3))

    return_forth : more_returns ≡ true → HasReturn d (q + 1)
    return_forth set = by here
      where
        by : ((list_any (is_return q) row ≡ true) × (more_returns ≡ true)) ⊎ ((list_any (is_return q) row ≡ false) × (more_returns ≡ returns)) → HasReturn d (q + 1)
        by (inl new) = let found = return_from new.0 in (q, (found.0, omega arith, found.1.0, found.1.1))
        by (inr old) = later_return (ends.returns_is.0 (sym old.1 ∙ set))

    return_back : HasReturn d (q + 1) → more_returns ≡ true
    return_back found = by here (cases_lt found.0 q)
      where
        by : ((list_any (is_return q) row ≡ true) × (more_returns ≡ true)) ⊎ ((list_any (is_return q) row ≡ false) × (more_returns ≡ returns)) → (found.0 < q) ⊎ (q ≤ found.0) → more_returns ≡ true
        by (inl new) at = new.1
        by (inr old) (inl less) = old.1 ∙ ends.returns_is.1 (found.0, (found.1.0, less, found.1.2, found.1.3))
        by (inr old) (inr past) =
            let same : found.0 ≡ q = omega (arith, past, found.1.1) in
            absurd (true≢false (sym (return_to found.1.0 (ap (λ p. step_of d p found.1.0) (sym same) ∙ found.1.2) (λ pair. found.1.3 (same ∙ pair.0, pair.1))) ∙ old.0))

    gap_forth : more_gap ≡ true → HasGap d (q + 1)
    gap_forth set = by short
      where
        by : ((length row < letters_of d) × (more_gap ≡ true)) ⊎ ((letters_of d ≤ length row) × (more_gap ≡ gap)) → HasGap d (q + 1)
        by (inl new) = let found = gap_from new.0 in (q, (found.0, omega arith, found.1.0, found.1.1))
        by (inr old) = later_gap (ends.gap_is.0 (sym old.1 ∙ set))

    gap_back : HasGap d (q + 1) → more_gap ≡ true
    gap_back found = by short (cases_lt found.0 q)
      where
        by : ((length row < letters_of d) × (more_gap ≡ true)) ⊎ ((letters_of d ≤ length row) × (more_gap ≡ gap)) → (found.0 < q) ⊎ (q ≤ found.0) → more_gap ≡ true
        by (inl new) at = new.1
        by (inr old) (inl less) = old.1 ∙ ends.gap_is.1 (found.0, (found.1.0, less, found.1.2, found.1.3))
        by (inr old) (inr past) =
            let same : found.0 ≡ q = omega (arith, past, found.1.1) in
            absurd (no_gap old.0 found.1.0 found.1.2 (ap (λ p. step_of d p found.1.0) (sym same) ∙ found.1.3))

    -- with the transitions of one state more
    pub AreEnds-more : AreEnds d (q + 1) more_returns more_gap
    AreEnds-more = record { returns_is = (return_forth, return_back); gap_is = (gap_forth, gap_back) }

-- of no state
pub AreEnds-none : (d : Automaton) → AreEnds d 0 false false
AreEnds-none d = record {
  returns_is = ((λ no. absurd (true≢false (sym no))), (λ found. absurd (omega (arith, found.1.1))));
  gap_is = ((λ no. absurd (true≢false (sym no))), (λ found. absurd (omega (arith, found.1.1))));
}
