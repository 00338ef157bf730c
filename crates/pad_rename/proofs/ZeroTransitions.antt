-- Transitions from a key of which that by the zero letter leads to the empty list.
use Rattle.std.proofs.Common.{◌≡◌, ◌==◌, ℕ, zero, suc, ◌<◌, Bool, true, false, not, cond, if◌then◌else◌, List, [], ◌∷◌, ◌++◌, filter, get_or, Some, refl, sym, ap, ◌∙◌, arith}
use Rattle.std.specs.List.{All, AllPairs, range_with_len}
use Rattle.std.proofs.lemmas.Bool.{ne_eqb, eqb-true}
use Rattle.std.proofs.lemmas.List.Elements.{All-filter, filter_passes}
use Rattle.std.proofs.lemmas.List.Kept.{AllPairs-filter}
use Rattle.digit_tuple.specs.Automaton as branching
use Rattle.digit_tuple.specs.Automaton.{Branching}
use Rattle.digit_tuple.specs.Keys.{KeyTransition, AreKeyTransitions, IsByEarlier, key_by}
use Rattle.digit_tuple.specs.Groups.{some_set}
use Rattle.determinise.specs.Subsets.{set_after}
use Rattle.pad_rename.specs.PaddedSets.{transitions_by_zero, is_by_other, padded_after}

-- transitions by other letters lead where they did
key_by-others : (transitions : List KeyTransition) (a : ℕ) → key_by (filter is_by_other transitions) (suc a) ≡ key_by transitions (suc a)
key_by-others [] a = refl
key_by-others (transition ∷ transitions) a = by (transition.letter == 0) refl (key_by-others transitions a)
  where
    by : (b : Bool) → (transition.letter == 0) ≡ b → key_by (filter is_by_other transitions) (suc a) ≡ key_by transitions (suc a)
        → key_by (cond (not b) (transition ∷ filter is_by_other transitions) (filter is_by_other transitions)) (suc a) ≡ key_by (transition ∷ transitions) (suc a)
    by true is rest =
        let zero_is : transition.letter ≡ 0 = eqb-true transition.letter 0 is in
        rest ∙ sym (ap (λ (b : Bool). if b then Some transition.key else key_by transitions (suc a)) (ne_eqb transition.letter (suc a) (λ same. absurd (omega (arith, zero_is, same)))))
    by false is rest = ap (λ r. if transition.letter == suc a then Some transition.key else r) rest

positive : (transition : KeyTransition) → is_by_other transition ≡ true → 0 < transition.letter
positive transition is = by (transition.letter) refl
  where
    by : (a : ℕ) → transition.letter ≡ a → 0 < transition.letter
    by zero same = let no : false ≡ true = sym (ap (λ (x : ℕ). not (x == 0)) same) ∙ is in cc
    by (suc a) same = omega (arith, same)

-- with that by the zero letter they are the transitions after zeros alone
pub AreKeyTransitions-first : (n : Branching) (first : List ℕ) (letters : ℕ) (transitions : List KeyTransition) → AreKeyTransitions letters (set_after n first) transitions → AreKeyTransitions letters (padded_after n first []) (transitions_by_zero letters ++ filter is_by_other transitions)
AreKeyTransitions-first n first zero transitions are = record {
  in_range = All-filter is_by_other (λ transition. transition.letter < zero) transitions are.in_range;
  ascending = AllPairs-filter IsByEarlier is_by_other transitions are.ascending;
  lead = λ a small. absurd (omega (arith, small));
}
AreKeyTransitions-first n first (suc letters) transitions are = record {
  in_range = in_range;
  ascending = ascending;
  lead = lead;
}
  where
    in_range : All (λ transition. transition.letter < suc letters) (transitions_by_zero (suc letters) ++ filter is_by_other transitions)
    in_range zero d within = omega arith
    in_range (suc k) d within = All-filter is_by_other (λ transition. transition.letter < suc letters) transitions are.in_range k d (omega arith)

    ascending : AllPairs IsByEarlier (transitions_by_zero (suc letters) ++ filter is_by_other transitions)
    ascending i zero d before within = absurd (omega arith)
    ascending zero (suc j) d before within = positive (get_or (filter is_by_other transitions) j d) (filter_passes is_by_other transitions j d (omega arith))
    ascending (suc i) (suc j) d before within = AllPairs-filter IsByEarlier is_by_other transitions are.ascending i j d (omega arith) (omega arith)

    lead : (a : ℕ) → a < suc letters → key_by (transitions_by_zero (suc letters) ++ filter is_by_other transitions) a ≡ padded_after n first [] a
    lead zero small = refl
    lead (suc a) small =
        ap (λ (b : Bool). if b then Some [] else key_by (filter is_by_other transitions) (suc a)) (ne_eqb 0 (suc a) (λ same. absurd (omega (arith, same))))
        ∙ key_by-others transitions a ∙ are.lead (suc a) small

filter-none : (xs : List ℕ) → filter (λ q. false) xs ≡ []
filter-none [] = refl
filter-none (x ∷ xs) = filter-none xs

-- no letter leads from no state
pub AreKeyTransitions-none : (n : Branching) (letters : ℕ) → AreKeyTransitions letters (set_after n []) []
AreKeyTransitions-none n letters = record {
  in_range = λ k d within. absurd (omega arith);
  ascending = λ i j d before within. absurd (omega arith);
  lead = λ a small. sym (ap some_set (filter-none (range_with_len 0 (branching.states_of n))));
}
