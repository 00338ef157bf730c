-- Flags at some places.
use Rattle.std.proofs.Common.{◌≡◌, ◌≢◌, ◌==◌, ℕ, ◌+◌, ◌<◌, Bool, true, false, List, length, map, get_or, set, ◌⊎◌, inl, inr, refl, sym, ap, ◌∙◌, subst, true≢false, eq-eqb, eqb-true, arith, below_more, get_or-set_same, get_or-set_other}
use Rattle.std.specs.List.{All, Contains}
use Rattle.std.proofs.lemmas.Bool.{cases_eq, false_from_ne_true}
use Rattle.std.proofs.lemmas.List.{ext_get_or, get_or_default, get_or-map, length-map, length-set}
use Rattle.std.proofs.lemmas.List.Elements.{All-contains_itself, All-weaker}
use Rattle.digit_tuple.specs.PartIndex.{letters_with}
use Rattle.digit_tuple.proofs.PartIndexLemmas.{Contains-from_letters, Contains-letters}
use Rattle.pad_rename.specs.ZeroClosure.{flag_at}
use Rattle.project_close.specs.Image.{AreFlagsAt}

-- one place more
pub AreFlagsAt-more : (count : ℕ) (flags : List Bool) (places : List ℕ) (first : ℕ) → get_or places first 0 < count → AreFlagsAt count flags places first
    → AreFlagsAt count (set flags (get_or places first 0) true) places (first + 1)
AreFlagsAt-more count flags places first inside are = record {
  long = length-set flags place true ∙ are.long;
  set = below_more (λ i. flag_at (set flags place true) (get_or places i 0) ≡ true) first (λ i less. kept i less (cases_eq (get_or places i 0) place)) here;
  only = λ k is. found k is (cases_eq k place);
}
  where
    place : ℕ
    place = get_or places first 0

    here : flag_at (set flags place true) place ≡ true
    here = get_or-set_same flags place true false (omega (arith, are.long, inside))

    kept : (i : ℕ) → i < first → (get_or places i 0 ≡ place) ⊎ (get_or places i 0 ≢ place) → flag_at (set flags place true) (get_or places i 0) ≡ true
    kept i less (inl same) = ap (flag_at (set flags place true)) same ∙ here
    kept i less (inr other) = get_or-set_other flags place (get_or places i 0) true false other ∙ are.set i less

    found : (k : ℕ) → flag_at (set flags place true) k ≡ true → (k ≡ place) ⊎ (k ≢ place) → (i : ℕ) × (i < first + 1) × (get_or places i 0 ≡ k)
    found k is (inl same) = (first, omega arith, sym same)
    found k is (inr other) = let before = are.only k (sym (get_or-set_other flags place k true false other) ∙ is) in (before.0, omega (arith, before.1), before.2)

-- letters with a part are letters
pub letters_with-below : (parts : List ℕ) (part : ℕ) → All (λ a. a < length parts) (letters_with parts part)
letters_with-below parts part =
    All-weaker (Contains (letters_with parts part)) (λ a. a < length parts) (λ a there. (Contains-from_letters parts part a there).0) (letters_with parts part) (All-contains_itself (letters_with parts part))

-- the flags at the letters whose part is 0
pub AreFlagsAt-zeros : (parts : List ℕ) (flags : List Bool) → AreFlagsAt (length parts) flags (letters_with parts 0) (length (letters_with parts 0)) → flags ≡ map (λ part. part == 0) parts
AreFlagsAt-zeros parts flags are = ext_get_or false flags (map (λ part. part == 0) parts) (are.long ∙ sym (length-map parts (λ part. part == 0)))
    (λ k within.
    let inside : k < length parts = omega (arith, within, are.long) in
    by k inside (get_or flags k false) refl ∙ sym (get_or-map (λ part. part == 0) parts k 0 false inside))
  where
    zero_at : (k : ℕ) → k < length parts → get_or parts k 0 ≡ 0 → flag_at flags k ≡ true
    zero_at k inside is = let there = Contains-letters parts 0 k inside is in subst (λ a. flag_at flags a ≡ true) (plain there) (are.set there.0 there.1)
      where
        plain : (there : Contains (letters_with parts 0) k) → get_or (letters_with parts 0) there.0 0 ≡ k
        plain there = get_or_default (letters_with parts 0) there.0 0 k there.1 ∙ there.2

    by : (k : ℕ) → k < length parts → (b : Bool) → get_or flags k false ≡ b → get_or flags k false ≡ (get_or parts k 0 == 0)
    by k inside true is =
        let found = are.only k is in
        let there : Contains (letters_with parts 0) k = (found.0, found.1, get_or_default (letters_with parts 0) found.0 k 0 found.1 ∙ found.2) in
        is ∙ sym (eq-eqb (get_or parts k 0) 0 (Contains-from_letters parts 0 k there).1)
    by k inside false is =
        is ∙ sym (false_from_ne_true (get_or parts k 0 == 0) (λ zero. true≢false (sym (zero_at k inside (eqb-true (get_or parts k 0) 0 zero)) ∙ is)))
