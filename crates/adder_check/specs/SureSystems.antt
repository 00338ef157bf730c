-- A language of which it is known that it is that of a numeration system is one: its long words are found by looking at words in turn.
use Rattle.std.specs.Prelude.{◌≡◌, ℕ, zero, suc, ◌<◌, Bool, true, false, ◌&&◌, nat_lt, List, [], ◌∷◌, length, ◌⊎◌, IsTrue}
use Rattle.std.specs.Coded.{×_prop, Π_prop, Unit-prop, le_prop}
use Rattle.std.proofs.Common.{inl, inr, refl, ap, sym, ◌∙◌, subst, arith}
use Rattle.std.proofs.Math.Logic.{∥∥₁_elim, ∥∥₁_map}
use Rattle.std.proofs.lemmas.Bool.{cases_Bool, cases_lt, cases_order, false≢true, lt-ltb, ltb-true, and_parts}
use Rattle.digit_tuple.specs.Letters.{IsWord}
use Rattle.numeration.specs.Systems.{System, IsSystem}
use Rattle.numeration.specs.Words.{is_plain}
use mathlib.Core.Bool.{Bool-set}
use mathlib.Core.HLevel.{Σ_prop_path}

-- the least number that passes a test
module _ (passes : ℕ → Bool) where
  abbrev IsFirst : ℕ → Type 0
  IsFirst n = (passes n ≡ true) × ((k : ℕ) → k < n → passes k ≡ false)

  IsFirst-prop : (n : ℕ) → IsProp (IsFirst n)
  IsFirst-prop n = ×_prop (Bool-set (passes n) true) (Π_prop (λ k. Π_prop (λ below. Bool-set (passes k) false)))

  abbrev First : Type 0
  First = (n : ℕ) × IsFirst n

  first_same : (a b : First) → a.0 ≡ b.0
  first_same a b = elim (cases_order a.0 b.0) [
    | inl same ↦ same
    | inr apart ↦ elim apart [
      | inl less ↦ absurd (false≢true (sym (b.1.1 a.0 less) ∙ a.1.0))
      | inr more ↦ absurd (false≢true (sym (a.1.1 b.0 more) ∙ b.1.0))
    ]
  ]

  First-prop : IsProp First
  First-prop a b = Σ_prop_path IsFirst-prop (first_same a b)

  first_below : (n : ℕ) → First ⊎ ((k : ℕ) → k < n → passes k ≡ false)
  first_below zero = inr (λ k below. absurd (omega (arith, below)))
  first_below (suc n) = elim (first_below n) [
    | inl found ↦ inl found
    | inr none ↦ elim (cases_Bool (passes n)) [
      | inl here ↦ inl (n, (here, none))
      | inr not_here ↦ inr (λ k below. elim (cases_lt k n) [
        | inl before ↦ none k before
        | inr last ↦ subst (λ m. passes m ≡ false) (let same : n ≡ k = omega (arith, below, last) in same) not_here
      ])
    ]
  ]

  first_to : (n : ℕ) → passes n ≡ true → First
  first_to n here = elim (first_below (suc n)) [
    | inl found ↦ found
    | inr none ↦ absurd (false≢true (sym (none n (omega arith)) ∙ here))
  ]

  first_of : ∥ ((n : ℕ) × (passes n ≡ true)) ∥₁ → First
  first_of some = ∥∥₁_elim some First-prop (λ found. first_to found.0 found.1)

-- a word that passes a test, or none over the digits of a length does
module _ (d : ℕ) where
  abbrev Found : (List ℕ → Bool) → Type 0
  Found test = (w : List ℕ) × (test w ≡ true)

  abbrev IsNone : (List ℕ → Bool) → ℕ → Type 0
  IsNone test n = (w : List ℕ) → IsWord d w → length w ≡ n → test w ≡ false

  -- with a first digit below some number
  with_first : (test : List ℕ → Bool) (n k : ℕ) → ((a : ℕ) → Found (λ w. test (a ∷ w)) ⊎ IsNone (λ w. test (a ∷ w)) n)
      → Found test ⊎ ((a : ℕ) → a < k → IsNone (λ w. test (a ∷ w)) n)
  with_first test n zero look = inr (λ a below. absurd (omega (arith, below)))
  with_first test n (suc k) look = elim (with_first test n k look) [
    | inl found ↦ inl found
    | inr none ↦ elim (look k) [
      | inl found ↦ inl (k ∷ found.0, found.1)
      | inr not_here ↦ inr (λ a below. elim (cases_lt a k) [
        | inl before ↦ none a before
        | inr last ↦ subst (λ b. IsNone (λ w. test (b ∷ w)) n) (let same : k ≡ a = omega (arith, below, last) in same) not_here
      ])
    ]
  ]

  look_for : (n : ℕ) (test : List ℕ → Bool) → Found test ⊎ IsNone test n
  look_for zero test = elim (cases_Bool (test [])) [
    | inl here ↦ inl ([], here)
    | inr not_here ↦ inr (only_empty test not_here)
  ]
    where
      only_empty : (test : List ℕ → Bool) → test [] ≡ false → IsNone test zero
      only_empty test none [] over long = none
      only_empty test none (a ∷ w) over long = absurd (omega (arith, long))
  look_for (suc n) test = elim (with_first test n d (λ a. look_for n (λ w. test (a ∷ w)))) [
    | inl found ↦ inl found
    | inr none ↦ inr (by none)
  ]
    where
      by : ((a : ℕ) → a < d → IsNone (λ w. test (a ∷ w)) n) → IsNone test (suc n)
      by none [] over long = absurd (omega (arith, long))
      by none (a ∷ w) over long = none a over.0 w over.1 (omega (arith, long))

  abbrev is_found : {A B : Type 0} → A ⊎ B → Bool
  is_found (inl a) = true
  is_found (inr b) = false

  take_found : {A B : Type 0} (either : A ⊎ B) → is_found either ≡ true → A
  take_found (inl a) is = a
  take_found (inr b) is = absurd (false≢true is)

  is_there : {A B : Type 0} (either : A ⊎ B) → (B → ⊥) → is_found either ≡ true
  is_there (inl a) not = refl
  is_there (inr b) not = absurd (not b)

  -- a word that is known to be there
  pub find_word : (test : List ℕ → Bool) → ((w : List ℕ) → test w ≡ true → IsWord d w) → ∥ ((w : List ℕ) × (test w ≡ true)) ∥₁ → (w : List ℕ) × (test w ≡ true)
  find_word test over some =
      let first = first_of (λ n. is_found (look_for n test))
      (∥∥₁_map some (λ found. (length found.0, is_there (look_for (length found.0) test) (λ none. false≢true (sym (none found.0 (over found.0 found.1) refl) ∙ found.1))))) in
      take_found (look_for first.0 test) first.1.0

IsWord-prop : (d : ℕ) (w : List ℕ) → IsProp (IsWord d w)
IsWord-prop d [] = Unit-prop
IsWord-prop d (a ∷ w) = ×_prop le_prop (IsWord-prop d w)

pub surely_system : (s : System) → ∥ IsSystem s ∥₁ → IsSystem s
surely_system s known = record {
  over = over;
  empty = ∥∥₁_elim known (Bool-set (s.test []) true) (λ is. is.empty);
  zeros = λ w. (
    (λ t. ∥∥₁_elim known (Bool-set (s.test w) true) (λ is. (is.zeros w).0 t)),
    (λ t. ∥∥₁_elim known (Bool-set (s.test (0 ∷ w)) true) (λ is. (is.zeros w).1 t)),
  );
  endless = λ n.
      let found = find_word s.digits (λ w. s.test w && (is_plain w && nat_lt n (length w))) (λ w passes. over w (and_parts _ _ passes).0)
      (∥∥₁_map known (λ is. let long = is.endless n in (long.0, all_three long.0 n long.2 long.3 long.1))) in
      let both = and_parts _ _ found.1 in
      let rest = and_parts _ _ both.1 in
      (found.0, ltb-true n (length found.0) rest.1, both.0, rest.0);
}
  where
    over : (w : List ℕ) → IsTrue (s.test w) → IsWord s.digits w
    over w valid = ∥∥₁_elim known (IsWord-prop s.digits w) (λ is. is.over w valid)

    all_three : (w : List ℕ) (n : ℕ) → IsTrue (s.test w) → IsTrue (is_plain w) → n < length w → (s.test w && (is_plain w && nat_lt n (length w))) ≡ true
    all_three w n valid plain long = ap (λ b. b && (is_plain w && nat_lt n (length w))) valid ∙ ap (λ b. b && nat_lt n (length w)) plain ∙ lt-ltb n (length w) long
