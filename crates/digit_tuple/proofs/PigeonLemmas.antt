-- Lists of numbers below a bound: those in which each is, and those in which none is twice.
use Rattle.std.proofs.Common.{◌≡◌, ◌≢◌, ℕ, zero, suc, ◌+◌, ◌<◌, ◌≤◌, true, false, List, [], ◌∷◌, ◌++◌, length, get_or, ◌⊎◌, inl, inr, refl, sym, ap, ◌∙◌, subst, arith}
use Rattle.std.specs.Prelude.{eqb}
use Rattle.std.specs.List.{AllByRecursion, IsDistinct, list_any, remove}
use Rattle.std.proofs.lemmas.Bool.{cases_order, cases_lt, eqb-true, false_from_ne_true}
use Rattle.std.proofs.lemmas.List.{length_push, get_or_default, get_or_push, get_or_append_left}
use Rattle.std.proofs.lemmas.List.Folds.{Any-from_list_any}
use Rattle.std.proofs.lemmas.List.Edits.{length-remove, get_or-remove_below, get_or-remove_above}
use Rattle.std.proofs.lemmas.Map.Steps.{length-le_from_distinct_below}

-- the number is in the list
abbrev pub IsNumberIn : List ℕ → ℕ → Type 0
IsNumberIn xs k = (i : ℕ) × (i < length xs) × (get_or xs i 0 ≡ k)

-- what is at another place stays when a place is removed
stays : (xs : List ℕ) (j i k : ℕ) → j < length xs → i < length xs → i ≢ j → get_or xs i 0 ≡ k → IsNumberIn (remove xs j) k
stays xs j i k place within other at = by (cases_order i j)
  where
    size : length (remove xs j) + 1 ≡ length xs
    size = length-remove xs j place

    earlier : (m : ℕ) → i ≡ m + 1 → j ≤ m → IsNumberIn (remove xs j) k
    earlier m is after = (m, omega (arith, size, is), get_or-remove_above xs j 0 m after place ∙ ap (λ n. get_or xs n 0) (sym is) ∙ at)

    last : (n : ℕ) → i ≡ n → j < n → IsNumberIn (remove xs j) k
    last zero is more = absurd (omega arith)
    last (suc m) is more = earlier m (omega arith) (omega arith)

    by : (i ≡ j) ⊎ ((i < j) ⊎ (j < i)) → IsNumberIn (remove xs j) k
    by (inl same) = absurd (other same)
    by (inr (inl less)) = (i, omega (arith, size), get_or-remove_below xs j 0 i less place ∙ at)
    by (inr (inr more)) = last i (omega arith) more

-- with each number below n a list has at least n elements
pub onto_least : (n : ℕ) (xs : List ℕ) → ((k : ℕ) → k < n → IsNumberIn xs k) → n ≤ length xs
onto_least zero xs onto = omega arith
onto_least (suc m) xs onto =
    let last = onto m (omega arith) in
    let size = length-remove xs last.0 last.1 in
    let rest : m ≤ length (remove xs last.0) = onto_least m (remove xs last.0) (λ k less. let at = onto k (omega arith) in stays xs last.0 at.0 k last.1 at.1 (λ same. omega (arith, less, at.2, last.2, ap (λ i. get_or xs i 0) same)) at.2) in
    omega (arith, size, rest)

-- with just n elements it has none twice
pub onto_apart : (n : ℕ) (xs : List ℕ) → ((k : ℕ) → k < n → IsNumberIn xs k) → length xs ≡ n → (i j : ℕ) → i < j → j < length xs → get_or xs i 0 ≢ get_or xs j 0
onto_apart n xs onto count i j before within same = omega (arith, length-remove xs j within, onto_least n (remove xs j) (λ k less. let at = onto k less in by k at (cases_order at.0 j)))
  where
    by : (k : ℕ) (at : IsNumberIn xs k) → (at.0 ≡ j) ⊎ ((at.0 < j) ⊎ (j < at.0)) → IsNumberIn (remove xs j) k
    by k at (inl is) = stays xs j i k within (omega arith) (λ e. omega (arith, e, before)) (same ∙ ap (λ n. get_or xs n 0) (sym is) ∙ at.2)
    by k at (inr (inl less)) = stays xs j at.0 k within at.1 (λ e. omega (arith, e, less)) at.2
    by k at (inr (inr more)) = stays xs j at.0 k within at.1 (λ e. omega (arith, e, more)) at.2

-- places of one element are one
pub onto_one : (n : ℕ) (xs : List ℕ) → ((k : ℕ) → k < n → IsNumberIn xs k) → length xs ≡ n → (i j : ℕ) → i < length xs → j < length xs → get_or xs i 0 ≡ get_or xs j 0 → i ≡ j
onto_one n xs onto count i j small low same = by (cases_order i j)
  where
    by : (i ≡ j) ⊎ ((i < j) ⊎ (j < i)) → i ≡ j
    by (inl is) = is
    by (inr (inl less)) = absurd (onto_apart n xs onto count i j less low same)
    by (inr (inr more)) = absurd (onto_apart n xs onto count j i more small (sym same))

-- a list of values, one for each number below n
pub choose : (P : ℕ → ℕ → Type 0) (n : ℕ) → ((k : ℕ) → k < n → (x : ℕ) × P k x) → (xs : List ℕ) × (length xs ≡ n) × ((k : ℕ) → k < n → P k (get_or xs k 0))
choose P zero some = ([], refl, λ k less. absurd (omega arith))
choose P (suc n) some =
    let rest = choose P n (λ k less. some k (omega arith)) in
    let last = some n (omega arith) in (
      rest.0 ++ last.0 ∷ [],
      length_push rest.0 last.0 ∙ omega (arith, rest.1),
      λ k less. by rest.0 rest.1 rest.2 last.0 last.1 k less (cases_lt k n),
    )
  where
    by : (xs : List ℕ) → length xs ≡ n → ((k : ℕ) → k < n → P k (get_or xs k 0)) → (x : ℕ) → P n x → (k : ℕ) → k < suc n → (k < n) ⊎ (n ≤ k) → P k (get_or (xs ++ x ∷ []) k 0)
    by xs size all x here k inside (inl less) = subst (P k) (sym (get_or_append_left xs (x ∷ []) 0 k (omega (arith, size)))) (all k less)
    by xs size all x here k inside (inr more) =
        let is : n ≡ k = omega arith in
        subst (P k) (sym (get_or_push xs x 0 k (size ∙ is))) (subst (λ m. P m x) is here)

-- the numbers are none of the others
others : (x : ℕ) (xs : List ℕ) → ((j : ℕ) → j < length xs → x ≢ get_or xs j 0) → AllByRecursion (λ y. eqb x y ≡ false) xs
others x [] apart = tt
others x (y ∷ xs) apart = (false_from_ne_true (eqb x y) (λ is. apart 0 (omega arith) (eqb-true x y is)), others x xs (λ j within. apart (suc j) (omega arith)))

distinct : (xs : List ℕ) → ((i j : ℕ) → i < j → j < length xs → get_or xs i 0 ≢ get_or xs j 0) → IsDistinct eqb xs
unfolding IsDistinct
distinct [] apart = tt
distinct (x ∷ xs) apart = (others x xs (λ j within. apart 0 (suc j) (omega arith) (omega arith)), distinct xs (λ i j before within. apart (suc i) (suc j) (omega arith) (omega arith)))

-- numbers below m of which no two are equal are at most m
pub few_below : (m : ℕ) (xs : List ℕ) → ((i : ℕ) → i < length xs → get_or xs i 0 < m) → ((i j : ℕ) → i < j → j < length xs → get_or xs i 0 ≢ get_or xs j 0) → length xs ≤ m
few_below m xs below apart = length-le_from_distinct_below xs m (distinct xs apart) member
  where
    member : (q : ℕ) → list_any (eqb q) xs ≡ true → q < m
    member q is =
        let found = Any-from_list_any (eqb q) xs is in
        let same : q ≡ found.1 = eqb-true q found.1 found.4 in
        let at : get_or xs found.0 0 ≡ found.1 = get_or_default xs found.0 0 found.1 found.2 ∙ found.3 in
        omega (arith, below found.0 found.2, at, same)
