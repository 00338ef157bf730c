-- Lists of states with count 0, and how they grow.
use Rattle.std.proofs.Common.{◌≡◌, ◌≢◌, ℕ, ◌+◌, ◌<◌, ◌≤◌, List, [], ◌∷◌, ◌++◌, length, get_or, set, ◌⊎◌, inl, inr, refl, sym, ap, ◌∙◌, subst, arith, append_assoc}
use Rattle.std.proofs.lemmas.Bool.{cases_order, cases_lt, cases_eq}
use Rattle.std.proofs.lemmas.List.{length_push, length-set, get_or-set_same, get_or-set_other, get_or_append_left, get_or_push}
use Rattle.endless.specs.Counts.{IsNumberIn, Grows, AreFree, IsOneLess}

pub Grows-trans : (old mid new : List ℕ) → Grows old mid → Grows mid new → Grows old new
Grows-trans old mid new first second = (first.0 ++ second.0, second.1 ∙ ap (λ (xs : List ℕ). xs ++ second.0) first.1 ∙ append_assoc old first.0 second.0)

pub Grows-at : (old new : List ℕ) (i : ℕ) → Grows old new → i < length old → get_or new i 0 ≡ get_or old i 0
Grows-at old new i grows within = ap (λ (xs : List ℕ). get_or xs i 0) grows.1 ∙ get_or_append_left old grows.0 0 i within

pub IsNumberIn-push : (xs : List ℕ) (x k : ℕ) → IsNumberIn xs k → IsNumberIn (xs ++ x ∷ []) k
IsNumberIn-push xs x k at = (at.0, omega (arith, at.1, length_push xs x), get_or_append_left xs (x ∷ []) 0 at.0 at.1 ∙ at.2)

pub IsNumberIn-last : (xs : List ℕ) (x : ℕ) → IsNumberIn (xs ++ x ∷ []) x
IsNumberIn-last xs x = (length xs, omega (arith, length_push xs x), get_or_push xs x 0 (length xs) refl)

-- a state with another count
pub AreFree-skip : (pending order : List ℕ) (n : ℕ) → AreFree pending order n → get_or pending n 0 ≢ 0 → AreFree pending order (n + 1)
AreFree-skip pending order n free some = record {
  within = λ i inside. omega (arith, free.within i inside);
  apart = free.apart;
  placed = λ q inside is. by q inside is (cases_order q n);
  none = free.none;
}
  where
    by : (q : ℕ) → q < n + 1 → get_or pending q 0 ≡ 0 → (q ≡ n) ⊎ ((q < n) ⊎ (n < q)) → IsNumberIn order q
    by q inside is (inl same) = absurd (some (ap (λ k. get_or pending k 0) (sym same) ∙ is))
    by q inside is (inr (inl less)) = free.placed q less is
    by q inside is (inr (inr more)) = absurd (omega (arith, inside, more))

-- one that is pushed: it is not in the order yet
pushed : (old pending order : List ℕ) (m n t : ℕ) → AreFree old order m → m ≤ n → t < n → ((i : ℕ) → i < length order → get_or order i 0 ≢ t)
    → get_or pending t 0 ≡ 0 → ((i : ℕ) → i < length order → get_or pending (get_or order i 0) 0 ≡ 0)
    → ((q : ℕ) → q < n → get_or pending q 0 ≡ 0 → (q ≡ t) ⊎ IsNumberIn order q) → AreFree pending (order ++ t ∷ []) n
pushed old pending order m n t free wide inside apart is none placed = record {
  within = λ i within. at (λ (x : ℕ). x < n) (λ k low. omega (arith, free.within k low, wide)) inside i within;
  apart = λ i j before within. apart_at i j before within (cases_lt j (length order));
  placed = λ q low zero_count. by q (placed q low zero_count);
  none = λ i within. at (λ x. get_or pending x 0 ≡ 0) none is i within;
}
  where
    at : (P : ℕ → Type 0) → ((k : ℕ) → k < length order → P (get_or order k 0)) → P t → (i : ℕ) → i < length (order ++ t ∷ []) → P (get_or (order ++ t ∷ []) i 0)
    at P each last i within = choose (cases_lt i (length order))
      where
        choose : (i < length order) ⊎ (length order ≤ i) → P (get_or (order ++ t ∷ []) i 0)
        choose (inl low) = subst P (sym (get_or_append_left order (t ∷ []) 0 i low)) (each i low)
        choose (inr high) = subst P (sym (get_or_push order t 0 i (omega (arith, high, within, length_push order t)))) last

    apart_at : (i j : ℕ) → i < j → j < length (order ++ t ∷ []) → (j < length order) ⊎ (length order ≤ j) → get_or (order ++ t ∷ []) i 0 ≢ get_or (order ++ t ∷ []) j 0
    apart_at i j before within (inl low) same = free.apart i j before low (sym (get_or_append_left order (t ∷ []) 0 i (omega (arith, before, low))) ∙ same ∙ get_or_append_left order (t ∷ []) 0 j low)
    apart_at i j before within (inr high) same =
        let last : length order ≡ j = omega (arith, high, within, length_push order t) in
        apart i (omega (arith, before, last)) (sym (get_or_append_left order (t ∷ []) 0 i (omega (arith, before, last))) ∙ same ∙ get_or_push order t 0 j last)

    by : (q : ℕ) → (q ≡ t) ⊎ IsNumberIn order q → IsNumberIn (order ++ t ∷ []) q
    by q (inl same) = subst (IsNumberIn (order ++ t ∷ [])) (sym same) (IsNumberIn-last order t)
    by q (inr there) = IsNumberIn-push order t q there

pub AreFree-take : (pending order : List ℕ) (n : ℕ) → AreFree pending order n → get_or pending n 0 ≡ 0 → AreFree pending (order ++ n ∷ []) (n + 1)
AreFree-take pending order n free is =
    pushed pending pending order n (n + 1) n free (omega arith) (omega arith) (λ i within same. omega (arith, free.within i within, same)) is free.none (λ q inside zero_count. by q inside zero_count (cases_order q n))
  where
    by : (q : ℕ) → q < n + 1 → get_or pending q 0 ≡ 0 → (q ≡ n) ⊎ ((q < n) ⊎ (n < q)) → (q ≡ n) ⊎ IsNumberIn order q
    by q inside zero_count (inl same) = inl same
    by q inside zero_count (inr (inl less)) = inr (free.placed q less zero_count)
    by q inside zero_count (inr (inr more)) = absurd (omega (arith, inside, more))

-- one link less to a state
module _ (old new order : List ℕ) (n t : ℕ) (free : AreFree old order n) (inside : t < n) (less : IsOneLess old new t) where
  apart_from : (i : ℕ) → i < length order → get_or order i 0 ≢ t
  apart_from i within same = omega (arith, less.there, ap (λ k. get_or old k 0) same, free.none i within)

  none_after : (i : ℕ) → i < length order → get_or new (get_or order i 0) 0 ≡ 0
  none_after i within = less.elsewhere (get_or order i 0) (apart_from i within) ∙ free.none i within

  placed_after : (q : ℕ) → q < n → get_or new q 0 ≡ 0 → (q ≡ t) ⊎ IsNumberIn order q
  placed_after q low is = by (cases_eq q t)
    where
      by : (q ≡ t) ⊎ (q ≡ t → ⊥) → (q ≡ t) ⊎ IsNumberIn order q
      by (inl same) = inl same
      by (inr other) = inr (free.placed q low (sym (less.elsewhere q other) ∙ is))

  pub AreFree-last : get_or new t 0 ≡ 0 → AreFree new (order ++ t ∷ []) n
  AreFree-last is = pushed old new order n n t free (omega arith) inside apart_from is none_after placed_after

-- the count of one place set to one less
pub IsOneLess-set : (old : List ℕ) (t count : ℕ) → t < length old → count + 1 ≡ get_or old t 0 → IsOneLess old (set old t count) t
IsOneLess-set old t count within is = record {
  width = length-set old t count;
  there = omega (arith, get_or-set_same old t count 0 within, is);
  elsewhere = λ p other. get_or-set_other old t p count 0 other;
}
