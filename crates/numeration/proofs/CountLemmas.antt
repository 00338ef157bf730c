-- Sums over the numbers below a bound, and counts over all words of a length.
use Rattle.std.proofs.Common.{◌≡◌, ℕ, zero, suc, ◌+◌, ◌<◌, ◌≤◌, Bool, false, cond, List, [], ◌∷◌, ◌++◌, map, length, refl, ap, sym, ◌∙◌, subst, arith, inl, inr, count_by}
use Rattle.std.proofs.lemmas.Bool.{cases_lt}
use Rattle.std.proofs.lemmas.List.Sums.{sum_by-cons, sum_by-append}
use Rattle.digit_tuple.specs.Letters.{IsWord}
use Rattle.numeration.specs.Words.{led, words, words_to}

-- the sum of a function's values at the numbers below a bound
abbrev pub sum_below : (ℕ → ℕ) → ℕ → ℕ
sum_below f zero = 0
sum_below f (suc n) = sum_below f n + f n

pub sum_below-same : (f g : ℕ → ℕ) (n : ℕ) → ((k : ℕ) → k < n → f k ≡ g k) → sum_below f n ≡ sum_below g n
sum_below-same f g zero same = refl
sum_below-same f g (suc n) same =
    let rest : sum_below f n ≡ sum_below g n = sum_below-same f g n (λ k below. same k (omega (arith, below))) in
    let last : f n ≡ g n = same n (omega arith) in
    omega (arith, rest, last)

-- the first term apart
pub sum_below-first : (f : ℕ → ℕ) (n : ℕ) → sum_below f (suc n) ≡ f 0 + sum_below (λ k. f (suc k)) n
sum_below-first f zero = omega arith
sum_below-first f (suc n) =
    let rest : sum_below f (suc n) ≡ f 0 + sum_below (λ k. f (suc k)) n = sum_below-first f n in
    omega (arith, rest)

pub sum_below-le : (f : ℕ → ℕ) (m n : ℕ) → m ≤ n → sum_below f m ≤ sum_below f n
sum_below-le f m zero within = subst (λ k. sum_below f k ≤ sum_below f 0) (let e : 0 ≡ m = omega (arith, within) in e) (let h : sum_below f 0 ≤ sum_below f 0 = omega arith in h)
sum_below-le f m (suc n) within = elim (cases_lt n m) [
  | inl all ↦ subst (λ k. sum_below f k ≤ sum_below f (suc n)) (let e : suc n ≡ m = omega (arith, within, all) in e) (let h : sum_below f (suc n) ≤ sum_below f (suc n) = omega arith in h)
  | inr part ↦ (let rest : sum_below f m ≤ sum_below f n = sum_below-le f m n part in omega (arith, rest))
]

-- the terms from a place on, where all but the first of them are 0
pub sum_below-stops : (f : ℕ → ℕ) (b n : ℕ) → b < n → ((k : ℕ) → b < k → f k ≡ 0) → sum_below f n ≡ sum_below f b + f b
sum_below-stops f b zero within none = absurd (omega (arith, within))
sum_below-stops f b (suc n) within none = elim (cases_lt b n) [
  | inl before ↦
      (let rest : sum_below f n ≡ sum_below f b + f b = sum_below-stops f b n before none in
      let last : f n ≡ 0 = none n before in
      omega (arith, rest, last))
  | inr last ↦ subst (λ k. sum_below f (suc k) ≡ sum_below f b + f b) (let e : b ≡ n = omega (arith, within, last) in e) refl
]

-- the term in which a number below the sum falls
pub sum_below-place : (f : ℕ → ℕ) (n k : ℕ) → k < sum_below f n → (a : ℕ) × (a < n) × (sum_below f a ≤ k) × (k < sum_below f a + f a)
sum_below-place f zero k below = absurd (omega (arith, below))
sum_below-place f (suc n) k below = elim (cases_lt k (sum_below f n)) [
  | inl before ↦ (let at = sum_below-place f n k before in (at.0, omega (arith, at.1), at.2, at.3))
  | inr last ↦ (n, omega arith, last, below)
]

pub count_by-cons : {X : Type 0} (p : X → Bool) (x : X) (xs : List X) → count_by p (x ∷ xs) ≡ cond {A = ℕ} (p x) 1 0 + count_by p xs
count_by-cons p x xs = sum_by-cons (λ y. cond {A = ℕ} (p y) 1 0) x xs

pub count_by-append : {X : Type 0} (p : X → Bool) (xs ys : List X) → count_by p (xs ++ ys) ≡ count_by p xs + count_by p ys
count_by-append p xs ys = sum_by-append (λ y. cond {A = ℕ} (p y) 1 0) xs ys

pub count_by-map : {X Y : Type 0} (p : Y → Bool) (f : X → Y) (xs : List X) → count_by p (map f xs) ≡ count_by (λ x. p (f x)) xs
count_by-map p f [] = refl
count_by-map p f (x ∷ xs) =
    count_by-cons p (f x) (map f xs) ∙ ap (λ n. cond {A = ℕ} (p (f x)) 1 0 + n) (count_by-map p f xs) ∙ sym (count_by-cons (λ y. p (f y)) x xs)

pub count_by-led : (p : List ℕ → Bool) (ws : List (List ℕ)) (n : ℕ) → count_by p (led ws n) ≡ sum_below (λ a. count_by (λ w. p (a ∷ w)) ws) n
count_by-led p ws zero = refl
count_by-led p ws (suc n) =
    let rest : count_by p (led ws n) ≡ sum_below (λ a. count_by (λ w. p (a ∷ w)) ws) n = count_by-led p ws n in
    let last : count_by p (map (λ w. n ∷ w) ws) ≡ count_by (λ w. p (n ∷ w)) ws = count_by-map p (λ w. n ∷ w) ws in
    let both = count_by-append p (led ws n) (map (λ w. n ∷ w) ws) in
    omega (arith, rest, last, both)

-- words of a length, by their first digits
pub count_by-words : (d : ℕ) (p : List ℕ → Bool) (n : ℕ) → count_by p (words d (suc n)) ≡ sum_below (λ a. count_by (λ w. p (a ∷ w)) (words d n)) d
count_by-words d p n = count_by-led p (words d n) d

-- tests that agree on all words of a length
pub count_by-same : (d n : ℕ) (p q : List ℕ → Bool) → ((w : List ℕ) → IsWord d w → length w ≡ n → p w ≡ q w) → count_by p (words d n) ≡ count_by q (words d n)
count_by-same d zero p q same = ap (λ b. 0 + cond {A = ℕ} b 1 0) (same [] tt refl)
count_by-same d (suc n) p q same =
    count_by-words d p n
    ∙ sum_below-same (λ a. count_by (λ w. p (a ∷ w)) (words d n)) (λ a. count_by (λ w. q (a ∷ w)) (words d n)) d
    (λ a below. count_by-same d n (λ w. p (a ∷ w)) (λ w. q (a ∷ w)) (λ w over long. same (a ∷ w) (below, over) (ap suc long)))
    ∙ sym (count_by-words d q n)

count_by-never : (ws : List (List ℕ)) → count_by (λ w. false) ws ≡ 0
count_by-never [] = refl
count_by-never (w ∷ ws) =
    let first = count_by-cons (λ v. false) w ws in
    let rest : count_by (λ v. false) ws ≡ 0 = count_by-never ws in
    omega (arith, first, rest)

-- a test that fails on all words of a length
pub count_by-none : (d n : ℕ) (p : List ℕ → Bool) → ((w : List ℕ) → length w ≡ n → p w ≡ false) → count_by p (words d n) ≡ 0
count_by-none d n p none = count_by-same d n p (λ w. false) (λ w over long. none w long) ∙ count_by-never (words d n)

-- tests that agree on all words up to a length
pub count_by-same_to : (d n : ℕ) (p q : List ℕ → Bool) → ((w : List ℕ) → length w ≤ n → p w ≡ q w) → count_by p (words_to d n) ≡ count_by q (words_to d n)
count_by-same_to d zero p q same = ap (λ b. 0 + cond {A = ℕ} b 1 0) (same [] (omega arith))
count_by-same_to d (suc n) p q same =
    let rest : count_by p (words_to d n) ≡ count_by q (words_to d n) = count_by-same_to d n p q (λ w short. same w (omega (arith, short))) in
    let last : count_by p (words d (suc n)) ≡ count_by q (words d (suc n)) = count_by-same d (suc n) p q (λ w over long. same w (omega (arith, long))) in
    let first = count_by-append p (words_to d n) (words d (suc n)) in
    let second = count_by-append q (words_to d n) (words d (suc n)) in
    omega (arith, rest, last, first, second)
