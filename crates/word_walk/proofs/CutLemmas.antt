-- A part of a long word can be cut out between two prefixes of one kind.
use Rattle.std.proofs.Common.{◌≡◌, ◌≢◌, ℕ, zero, suc, ◌+◌, ◌<◌, ◌≤◌, Bool, true, List, [], ◌∷◌, ◌++◌, length, get_or, take, drop, ◌⊎◌, inl, inr, refl, sym, ap, ◌∙◌, subst, arith, length-append}
use Rattle.std.proofs.lemmas.Bool.{cases_eq, cases_lt}
use Rattle.std.proofs.lemmas.List.{length-take-le, length-drop, take-append-drop}
use Rattle.digit_tuple.proofs.PigeonLemmas.{few_below}

-- two places of one number
abbrev HasTwo : List ℕ → Type 0
HasTwo xs = (i : ℕ) × (j : ℕ) × (i < j) × (j < length xs) × (get_or xs i 0 ≡ get_or xs j 0)

abbrev AreApart : List ℕ → Type 0
AreApart xs = (i j : ℕ) → i < j → j < length xs → get_or xs i 0 ≢ get_or xs j 0

-- a number is in a list, or it is not
find_in : (x : ℕ) (xs : List ℕ) → ((k : ℕ) × (k < length xs) × (x ≡ get_or xs k 0)) ⊎ ((k : ℕ) → k < length xs → x ≢ get_or xs k 0)
find_in x [] = inr (λ k within. absurd (omega (arith, within)))
find_in x (y ∷ ys) = by (cases_eq x y) (find_in x ys)
  where
    not_here : ¬ (x ≡ y) → ((k : ℕ) → k < length ys → x ≢ get_or ys k 0) → (k : ℕ) → k < length (y ∷ ys) → x ≢ get_or (y ∷ ys) k 0
    not_here other none zero within = other
    not_here other none (suc k) within = none k (omega (arith, within))

    by : (x ≡ y) ⊎ ¬ (x ≡ y) → ((k : ℕ) × (k < length ys) × (x ≡ get_or ys k 0)) ⊎ ((k : ℕ) → k < length ys → x ≢ get_or ys k 0)
        → ((k : ℕ) × (k < length (y ∷ ys)) × (x ≡ get_or (y ∷ ys) k 0)) ⊎ ((k : ℕ) → k < length (y ∷ ys) → x ≢ get_or (y ∷ ys) k 0)
    by (inl same) rest = inl (0, omega arith, same)
    by (inr other) (inl found) = inl (suc found.0, omega (arith, found.1), found.2)
    by (inr other) (inr none) = inr (not_here other none)

two_or_apart : (xs : List ℕ) → HasTwo xs ⊎ AreApart xs
two_or_apart [] = inr (λ i j before within. absurd (omega (arith, within)))
two_or_apart (x ∷ xs) = by (find_in x xs) (two_or_apart xs)
  where
    apart : ((k : ℕ) → k < length xs → x ≢ get_or xs k 0) → AreApart xs → AreApart (x ∷ xs)
    apart none rest zero zero before within = absurd (omega (arith, before))
    apart none rest zero (suc j) before within = none j (omega (arith, within))
    apart none rest (suc i) zero before within = absurd (omega (arith, before))
    apart none rest (suc i) (suc j) before within = rest i j (omega (arith, before)) (omega (arith, within))

    by : ((k : ℕ) × (k < length xs) × (x ≡ get_or xs k 0)) ⊎ ((k : ℕ) → k < length xs → x ≢ get_or xs k 0) → HasTwo xs ⊎ AreApart xs → HasTwo (x ∷ xs) ⊎ AreApart (x ∷ xs)
    by (inl found) rest = inl (0, suc found.0, omega arith, omega (arith, found.1), found.2)
    by (inr none) (inl two) = inl (suc two.0, suc two.1, omega (arith, two.2), omega (arith, two.3), two.4)
    by (inr none) (inr rest) = inr (apart none rest)

-- the values of a function below a number
abbrev values : (ℕ → ℕ) → ℕ → List ℕ
values f zero = []
values f (suc n) = f 0 ∷ values (λ k. f (suc k)) n

length-values : (f : ℕ → ℕ) (n : ℕ) → length (values f n) ≡ n
length-values f zero = refl
length-values f (suc n) = ap suc (length-values (λ k. f (suc k)) n)

get_or-values : (f : ℕ → ℕ) (n k : ℕ) → k < n → get_or (values f n) k 0 ≡ f k
get_or-values f zero k below = absurd (omega (arith, below))
get_or-values f (suc n) zero below = refl
get_or-values f (suc n) (suc k) below = get_or-values (λ k. f (suc k)) n k (omega (arith, below))

-- of n + 1 numbers below n two are the same
pigeons : (f : ℕ → ℕ) (n : ℕ) → ((k : ℕ) → k ≤ n → f k < n) → (i : ℕ) × (j : ℕ) × (i < j) × (j ≤ n) × (f i ≡ f j)
pigeons f n small = by (two_or_apart (values f (suc n)))
  where
    size : length (values f (suc n)) ≡ suc n
    size = length-values f (suc n)

    by : HasTwo (values f (suc n)) ⊎ AreApart (values f (suc n)) → (i : ℕ) × (j : ℕ) × (i < j) × (j ≤ n) × (f i ≡ f j)
    by (inl two) = (two.0, two.1, two.2, omega (arith, two.3, size), sym (get_or-values f (suc n) two.0 (omega (arith, two.2, two.3, size))) ∙ two.4 ∙ get_or-values f (suc n) two.1 (omega (arith, two.3, size)))
    by (inr apart) = absurd (omega (arith, size, few_below n (values f (suc n)) (λ i within. omega (arith, get_or-values f (suc n) i (omega (arith, within, size)), small i (omega (arith, within, size)))) apart))

-- prefixes of accepted words have kinds below n, and after prefixes of one kind words go on alike
pub record HasKinds (lists : List ℕ → Bool) (n : ℕ) (kind : List ℕ → ℕ) : Type 0 where
  pub small : (u v : List ℕ) → lists (u ++ v) ≡ true → kind u < n
  pub alike : (u v x y : List ℕ) → kind u ≡ kind v → lists (u ++ x) ≡ true → lists (v ++ y) ≡ true → lists (u ++ y) ≡ true

module _ (lists : List ℕ → Bool) (n : ℕ) (kind : List ℕ → ℕ) (kinds : HasKinds lists n kind) where
  -- a word of at least n letters is longer than another one by at most n
  pub shorter : (w : List ℕ) → lists w ≡ true → n ≤ length w → (v : List ℕ) × (lists v ≡ true) × (length v < length w) × (length w ≤ length v + n)
  shorter w listed long = (take two.0 w ++ drop two.1 w, cut, omega (arith, sizes, two.2, two.3), omega (arith, sizes, two.2, two.3))
    where
      two : (i : ℕ) × (j : ℕ) × (i < j) × (j ≤ n) × (kind (take i w) ≡ kind (take j w))
      two = pigeons (λ k. kind (take k w)) n (λ k below. kinds.small (take k w) (drop k w) (subst (λ u. lists u ≡ true) (sym (take-append-drop k w)) listed))

      cut : lists (take two.0 w ++ drop two.1 w) ≡ true
      cut = kinds.alike (take two.0 w) (take two.1 w) (drop two.0 w) (drop two.1 w) two.4 (subst (λ u. lists u ≡ true) (sym (take-append-drop two.0 w)) listed) (subst (λ u. lists u ≡ true) (sym (take-append-drop two.1 w)) listed)

      sizes : length (take two.0 w ++ drop two.1 w) + two.1 ≡ two.0 + length w
      sizes = omega (arith, length-append (take two.0 w) (drop two.1 w), length-take-le two.0 w (omega (arith, two.2, two.3, long)), length-drop two.1 w, two.3, long)

  -- if a word has at least so many letters, some word has fewer than n more than that
  near_by : (fuel least : ℕ) (w : List ℕ) → length w ≤ fuel → lists w ≡ true → least ≤ length w → (v : List ℕ) × (lists v ≡ true) × (least ≤ length v) × (length v < least + n)
  near_by zero least w small listed enough = by (cases_lt (length w) (least + n))
    where
      by : (length w < least + n) ⊎ (least + n ≤ length w) → (v : List ℕ) × (lists v ≡ true) × (least ≤ length v) × (length v < least + n)
      by (inl near) = (w, listed, enough, near)
      by (inr far) = let cut = shorter w listed (omega (arith, far)) in absurd (omega (arith, cut.2, small))
  near_by (suc fuel) least w small listed enough = by (cases_lt (length w) (least + n)) (near_by fuel least)
    where
      by : (length w < least + n) ⊎ (least + n ≤ length w)
          → ((u : List ℕ) → length u ≤ fuel → lists u ≡ true → least ≤ length u → (v : List ℕ) × (lists v ≡ true) × (least ≤ length v) × (length v < least + n))
          → (v : List ℕ) × (lists v ≡ true) × (least ≤ length v) × (length v < least + n)
      by (inl near) rest = (w, listed, enough, near)
      by (inr far) rest = let cut = shorter w listed (omega (arith, far)) in rest cut.0 (omega (arith, cut.2, small)) cut.1 (omega (arith, far, cut.3))

  pub near : (least : ℕ) (w : List ℕ) → lists w ≡ true → least ≤ length w → (v : List ℕ) × (lists v ≡ true) × (least ≤ length v) × (length v < least + n)
  near least w listed enough = near_by (length w) least w (omega arith) listed enough
