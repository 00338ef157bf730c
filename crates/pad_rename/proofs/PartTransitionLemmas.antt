-- The transitions by the letters whose parts a row has transitions by.
use Rattle.std.proofs.Common.{◌≡◌, ◌≢◌, ℕ, ◌-◌, ◌<◌, ◌==◌, Bool, List, [], ◌∷◌, length, map, get_or, Option, None, Some, refl, sym, ap, ◌∙◌, arith}
use Rattle.std.specs.List.{AllPairs, Contains, flat_map}
use Rattle.std.specs.List.Sorted.{IsNonDecreasingBy, IsPermutation}
use Rattle.std.proofs.lemmas.Bool.{eqb-false, ne_eqb}
use Rattle.std.proofs.lemmas.Cmp.{nat_eq_equiv}
use Rattle.std.proofs.lemmas.List.{get_or-map, length-map}
use Rattle.std.proofs.lemmas.List.Elements.{All-contains_itself, All-weaker}
use Rattle.std.proofs.lemmas.List.Kept.{AllPairs-filter}
use Rattle.std.proofs.lemmas.List.Sorted.{Contains-permutation, IsPermutation-sym}
use Rattle.std.proofs.lemmas.Option.{none-some}
use Rattle.std.proofs.lemmas.Map.Keys.{IsDistinct-from_apart, IsDistinct-IsPermutation, apart_from_distinct}
use Rattle.digit_tuple.specs.declared.transitions.Transition.{Transition}
use Rattle.digit_tuple.specs.Deterministic.{IsByEarlier, target_by}
use Rattle.digit_tuple.specs.PartIndex.{letters_with}
use Rattle.digit_tuple.specs.Reversed.{transition_to}
use Rattle.digit_tuple.proofs.DfaLemmas.{target_by-none}
use Rattle.digit_tuple.proofs.MemberLemmas.{AllPairs-append, AllPairs-head, AllPairs-tail, Contains-map, Contains-from_map, Contains-flat_map, Contains-from_flat_map}
use Rattle.digit_tuple.proofs.PartIndexLemmas.{Contains-letters, Contains-from_letters}
use Rattle.digit_tuple.proofs.ReversedLemmas.{target_by-contains, contains_from_target_by}
use Rattle.determinise.specs.SubsetLaws.{AllPairs-range}
use Rattle.pad_rename.specs.PartReading.{AreTransitionsByParts}

-- the transitions by letters to the target of a transition
abbrev pub transitions_by : Transition → List ℕ → List Transition
transitions_by transition letters = map (λ a. transition_to a transition.target) letters

-- the transition is by another letter than the other
abbrev IsByOther : Transition → Transition → Type 0
IsByOther e f = e.letter ≢ f.letter

abbrev are_by_one : Transition → Transition → Bool
are_by_one e f = e.letter == f.letter

transitions_by-apart : (transition : Transition) (letters : List ℕ) → AllPairs (λ a b. a < b) letters → AllPairs IsByOther (transitions_by transition letters)
transitions_by-apart transition letters up i j d before within same =
    let f : ℕ → Transition = λ a. transition_to a transition.target in
    let inside : j < length letters = omega (arith, within, length-map letters f) in
    let first : (get_or (map f letters) i d).letter ≡ get_or letters i 0 = ap (λ (e : Transition). e.letter) (get_or-map f letters i 0 d (omega (arith, before, inside))) in
    let second : (get_or (map f letters) j d).letter ≡ get_or letters j 0 = ap (λ (e : Transition). e.letter) (get_or-map f letters j 0 d inside) in
    omega (arith, up i j 0 before inside, first, second, same)

module _ (parts : List ℕ) where
  -- the transitions by the letters whose part is the transition's letter
  abbrev pub transitions_with : Transition → List Transition
  transitions_with transition = transitions_by transition (letters_with parts transition.letter)

  -- a transition leads where the transition by the part of its letter does
  part_transition : (transition e : Transition) → Contains (transitions_with transition) e → (e.letter < length parts) × (get_or parts e.letter 0 ≡ transition.letter) × (e.target ≡ transition.target)
  part_transition transition e there =
      let found = Contains-from_map (λ a. transition_to a transition.target) (letters_with parts transition.letter) e there in
      let has = Contains-from_letters parts transition.letter found.0 found.1 in
      let by : e.letter ≡ found.0 = ap (λ (f : Transition). f.letter) (sym found.2) in
      (omega (arith, by, has.0), ap (λ a. get_or parts a 0) by ∙ has.1, ap (λ (f : Transition). f.target) (sym found.2))

  -- no two are by one letter
  row-apart : (row : List Transition) → AllPairs IsByEarlier row → AllPairs IsByOther (flat_map transitions_with row)
  row-apart [] up = λ i j d before within. absurd (omega (arith, within))
  row-apart (transition ∷ row) up =
      AllPairs-append IsByOther (transitions_with transition) (flat_map transitions_with row) own (row-apart row (AllPairs-tail IsByEarlier transition row up)) across
    where
      own : AllPairs IsByOther (transitions_with transition)
      own = transitions_by-apart transition (letters_with parts transition.letter) (AllPairs-filter (λ a b. a < b) (λ a. get_or parts a 0 == transition.letter) _ (AllPairs-range (length parts - 0)))

      across : (e f : Transition) → Contains (transitions_with transition) e → Contains (flat_map transitions_with row) f → IsByOther e f
      across e f here there same =
          let found = Contains-from_flat_map transitions_with row f there in
          let less : transition.letter < found.0.letter = AllPairs-head IsByEarlier transition row found.0 up found.1 in
          omega (arith, less, (part_transition transition e here).1, (part_transition found.0 f found.2).1, ap (λ a. get_or parts a 0) same)

  -- in order they are those by parts
  pub AreTransitionsByParts-sorted : (row sorted : List Transition) → AllPairs IsByEarlier row → IsPermutation (flat_map transitions_with row) sorted → IsNonDecreasingBy (λ (e : Transition). e.letter) sorted → AreTransitionsByParts parts row sorted
  AreTransitionsByParts-sorted row sorted up moved rising = record {
    in_range = All-weaker (Contains sorted) (λ e. e.letter < length parts) (λ e there. let found = origin e there in (part_transition found.0 e found.2).0) sorted (All-contains_itself sorted);
    ascending = ascending;
    lead = λ a small. lead a small (target_by row (get_or parts a 0)) refl;
  }
    where
      origin : (e : Transition) → Contains sorted e → (transition : Transition) × Contains row transition × Contains (transitions_with transition) e
      origin e there = Contains-from_flat_map transitions_with row e (Contains-permutation sorted (flat_map transitions_with row) e (IsPermutation-sym (flat_map transitions_with row) sorted moved) there)

      ascending : AllPairs IsByEarlier sorted
      ascending i j d before within =
          let apart = IsDistinct-from_apart are_by_one (flat_map transitions_with row) (λ k l f low high. ne_eqb _ _ (row-apart row up k l f low high)) in
          let other = apart_from_distinct are_by_one sorted i j d (IsDistinct-IsPermutation are_by_one (λ e f. nat_eq_equiv.symm e.letter f.letter) (flat_map transitions_with row) sorted moved apart) before within in
          omega (arith, rising i j d (omega (arith, before)) within, eqb-false _ _ other)

      lead : (a : ℕ) → a < length parts → (o : Option ℕ) → target_by row (get_or parts a 0) ≡ o → target_by sorted a ≡ o
      lead a small None none = target_by-none sorted a (All-weaker (Contains sorted) (λ e. e.letter ≢ a) other sorted (All-contains_itself sorted))
        where
          other : (e : Transition) → Contains sorted e → e.letter ≢ a
          other e there same =
              let found = origin e there in
              let by = part_transition found.0 e found.2 in
              let leads : target_by row (get_or parts a 0) ≡ Some found.0.target = ap (target_by row) (ap (λ b. get_or parts b 0) (sym same) ∙ by.1) ∙ target_by-contains row found.0.letter found.0.target up found.1 in
              none-some found.0.target (sym none ∙ leads)
      lead a small (Some t) leads =
          let there = contains_from_target_by row (get_or parts a 0) t leads in
          let by = Contains-map (λ b. transition_to b t) (letters_with parts (get_or parts a 0)) a (Contains-letters parts (get_or parts a 0) a small refl) in
          target_by-contains sorted a t ascending
          (Contains-permutation (flat_map transitions_with row) sorted (transition_to a t) moved (Contains-flat_map transitions_with row (transition_to (get_or parts a 0) t) (transition_to a t) there by))
