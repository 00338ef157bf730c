-- Sums over the states of a class.
use Rattle.std.proofs.Common.{◌≡◌, ◌==◌, ℕ, zero, suc, ◌+◌, ◌-◌, ◌<◌, ◌≤◌, ◌⊎◌, inl, inr, Bool, if◌then◌else◌, List, take, drop, length, length-drop, get_or, refl, sym, ap, ◌∙◌, eq-eqb, arith}
use Rattle.std.specs.List.{count_by, slice_range}
use Rattle.std.proofs.lemmas.Bool.{cases_eq, cases_lt, ne_eqb}
use Rattle.std.proofs.lemmas.List.{get_or-drop, take_more}
use Rattle.std.proofs.lemmas.List.Sums.{count_by_more_no, count_by_more_yes, sum_by_push}
use Rattle.std.specs.Prelude.{sum_by}
use Rattle.residual_classes.specs.Classes.{class_of}
use Rattle.residual_classes.specs.Weights.{class_size, class_sum, sum_below}
use Rattle.residual_classes.proofs.WeightLemmas.{sum_below-add, sum_below-le, sum_below-one, sum_below-same}

-- what a state adds to its class's sum and to another's
pub counted_there : (x y f : ℕ) → x ≡ y → (if x == y then f else 0) ≡ f
counted_there x y f is = ap (λ (b : Bool). if b then f else 0) (eq-eqb x y is)

pub counted_not : (x y f : ℕ) → (x ≡ y → ⊥) → (if x == y then f else 0) ≡ 0
counted_not x y f other = ap (λ (b : Bool). if b then f else 0) (ne_eqb x y other)

-- what is said of a class's states in one list is said of those in another
pub counted_le : (x y v w f : ℕ) → (x ≡ y → v ≡ w) → (if x == y then f else 0) ≤ (if v == w then f else 0)
counted_le x y v w f to = by (cases_eq x y)
  where
    by : (x ≡ y) ⊎ (x ≡ y → ⊥) → (if x == y then f else 0) ≤ (if v == w then f else 0)
    by (inl is) = omega (arith, counted_there x y f is, counted_there v w f (to is))
    by (inr other) = omega (arith, counted_not x y f other)

module _ (states : ℕ) (f : ℕ → ℕ) where
  -- a sum has each of its states
  pub class_sum-has : (classes : List ℕ) (q : ℕ) → q < states → f q ≤ class_sum states f classes (class_of classes q)
  class_sum-has classes q small = by states small
    where
      c : ℕ
      c = class_of classes q

      part : ℕ → ℕ
      part p = if class_of classes p == c then f p else 0

      by : (n : ℕ) → q < n → f q ≤ sum_below n part
      by zero less = absurd (omega arith)
      by (suc n) less = go (cases_lt q n) (λ before. by n before)
        where
          go : (q < n) ⊎ (n ≤ q) → (q < n → f q ≤ sum_below n part) → f q ≤ sum_below n part + part n
          go (inl before) rest = omega (arith, rest before)
          go (inr past) rest =
              let is : q ≡ n = omega (arith, past, less) in
              omega (arith, ap part is, counted_there (class_of classes q) c (f q) refl)

  -- a class whose states are all in a class of another list has no larger sum
  pub class_sum-within : (new old : List ℕ) (c d : ℕ) → ((q : ℕ) → q < states → class_of new q ≡ c → class_of old q ≡ d) → class_sum states f new c ≤ class_sum states f old d
  class_sum-within new old c d to = sum_below-le (λ q. if class_of new q == c then f q else 0) (λ q. if class_of old q == d then f q else 0) states (λ q small. counted_le (class_of new q) c (class_of old q) d (f q) (to q small))

  -- states of a class have got a new one
  module _ (new old : List ℕ) (class count : ℕ) (made : class < count) (fresh : (q : ℕ) → q < states → class_of old q < count)
      (given : (q : ℕ) → q < states → ((class_of new q ≡ count) × (class_of old q ≡ class)) ⊎ (class_of new q ≡ class_of old q)) where
    -- the two parts
    pub class_sum-parts : class_sum states f new class + class_sum states f new count ≡ class_sum states f old class
    class_sum-parts = sym (sum_below-add (λ q. if class_of new q == class then f q else 0) (λ q. if class_of new q == count then f q else 0) states)
        ∙ sum_below-same (λ q. (if class_of new q == class then f q else 0) + (if class_of new q == count then f q else 0)) (λ q. if class_of old q == class then f q else 0) states (λ q small. by q small (given q small) (cases_eq (class_of old q) class))
      where
        by : (q : ℕ) → q < states → ((class_of new q ≡ count) × (class_of old q ≡ class)) ⊎ (class_of new q ≡ class_of old q) → (class_of old q ≡ class) ⊎ (class_of old q ≡ class → ⊥)
            → (if class_of new q == class then f q else 0) + (if class_of new q == count then f q else 0) ≡ (if class_of old q == class then f q else 0)
        by q small (inl gone) cases = omega (arith, counted_there (class_of new q) count (f q) gone.0, counted_not (class_of new q) class (f q) (λ is. omega (arith, is, gone.0, made)), counted_there (class_of old q) class (f q) gone.1)
        by q small (inr stays) (inl is) = omega (arith, counted_not (class_of new q) count (f q) (λ at. omega (arith, at, stays, fresh q small)), counted_there (class_of new q) class (f q) (stays ∙ is), counted_there (class_of old q) class (f q) is)
        by q small (inr stays) (inr other) = omega (arith, counted_not (class_of new q) count (f q) (λ at. omega (arith, at, stays, fresh q small)), counted_not (class_of new q) class (f q) (λ is. other (sym stays ∙ is)), counted_not (class_of old q) class (f q) other)

    -- the others
    pub class_sum-others : (c : ℕ) → (c ≡ class → ⊥) → (c ≡ count → ⊥) → class_sum states f new c ≡ class_sum states f old c
    class_sum-others c off new_one = sum_below-same (λ q. if class_of new q == c then f q else 0) (λ q. if class_of old q == c then f q else 0) states (λ q small. by q (given q small))
      where
        by : (q : ℕ) → ((class_of new q ≡ count) × (class_of old q ≡ class)) ⊎ (class_of new q ≡ class_of old q) → (if class_of new q == c then f q else 0) ≡ (if class_of old q == c then f q else 0)
        by q (inl gone) = counted_not (class_of new q) c (f q) (λ is. new_one (sym is ∙ gone.0)) ∙ sym (counted_not (class_of old q) c (f q) (λ is. off (sym is ∙ gone.1)))
        by q (inr stays) = ap (λ (k : ℕ). if k == c then f q else 0) stays

-- how many of the first states have a class, as a count
pub class_size-count : (n : ℕ) (classes : List ℕ) (class : ℕ) → n ≤ length classes → class_size n classes class ≡ count_by (λ c. c == class) (take n classes)
class_size-count zero classes class le = refl
class_size-count (suc n) classes class le = by (cases_eq (class_of classes n) class) (class_size-count n classes class (omega arith))
  where
    next : n + 1 ≡ suc n
    next = omega arith

    by : (class_of classes n ≡ class) ⊎ (class_of classes n ≡ class → ⊥) → class_size n classes class ≡ count_by (λ c. c == class) (take n classes) → class_size (suc n) classes class ≡ count_by (λ c. c == class) (take (suc n) classes)
    by (inl is) rest = omega (arith, rest, counted_there (class_of classes n) class 1 is, count_by_more_yes (λ c. c == class) classes n 0 (omega (arith, le)) (eq-eqb (class_of classes n) class is), ap (λ (k : ℕ). count_by (λ c. c == class) (take k classes)) next)
    by (inr other) rest = omega (arith, rest, counted_not (class_of classes n) class 1 other, count_by_more_no (λ c. c == class) classes n 0 (omega (arith, le)) (ne_eqb (class_of classes n) class other), ap (λ (k : ℕ). count_by (λ c. c == class) (take k classes)) next)

-- states in an order, and where each is in it
module _ (f : ℕ → ℕ) (states places : List ℕ) (n : ℕ) (width : length states ≡ n) (states_within : (place : ℕ) → place < n → get_or states place 0 < n)
    (placed : (place : ℕ) → place < n → get_or places (get_or states place 0) 0 ≡ place) (state_back : (q : ℕ) → q < n → get_or states (get_or places q 0) 0 ≡ q) where
  -- what a state adds where it is among so many places from one on
  abbrev part : ℕ → ℕ → ℕ → ℕ
  part start zero q = 0
  part start (suc j) q = part start j q + (if get_or places q 0 == start + j then f q else 0)

  part-out : (start j q : ℕ) → (get_or places q 0 < start) ⊎ (start + j ≤ get_or places q 0) → part start j q ≡ 0
  part-out start zero q off = refl
  part-out start (suc j) q (inl low) = omega (arith, part-out start j q (inl low), counted_not (get_or places q 0) (start + j) (f q) (λ is. omega (arith, is, low)))
  part-out start (suc j) q (inr high) = omega (arith, part-out start j q (inr (omega (arith, high))), counted_not (get_or places q 0) (start + j) (f q) (λ is. omega (arith, is, high)))

  part-in : (start j q : ℕ) → start ≤ get_or places q 0 → get_or places q 0 < start + j → part start j q ≡ f q
  part-in start zero q low high = absurd (omega (arith, low, high))
  part-in start (suc j) q low high = by (cases_lt (get_or places q 0) (start + j)) (λ less. part-in start j q low less)
    where
      by : (get_or places q 0 < start + j) ⊎ (start + j ≤ get_or places q 0) → (get_or places q 0 < start + j → part start j q ≡ f q) → part start (suc j) q ≡ f q
      by (inl less) rest = omega (arith, rest less, counted_not (get_or places q 0) (start + j) (f q) (λ is. omega (arith, is, less)))
      by (inr past) rest =
          let is : get_or places q 0 ≡ start + j = omega (arith, past, high) in
          omega (arith, part-out start j q (inr past), counted_there (get_or places q 0) (start + j) (f q) is)

  slice_sum : (start j : ℕ) → start + j ≤ n → sum_by f (take j (drop start states)) ≡ sum_below n (part start j)
  slice_sum start zero fits = sym (nothing n)
    where
      nothing : (m : ℕ) → sum_below m (part start zero) ≡ 0
      nothing zero = refl
      nothing (suc m) = omega (arith, nothing m)
  slice_sum start (suc j) fits = by (slice_sum start j (omega (arith, fits)))
    where
      at : ℕ
      at = get_or states (start + j) 0

      next : j + 1 ≡ suc j
      next = omega arith

      inside : j < length (drop start states)
      inside = omega (arith, fits, width, length-drop start states)

      by : sum_by f (take j (drop start states)) ≡ sum_below n (part start j) → sum_by f (take (suc j) (drop start states)) ≡ sum_below n (part start (suc j))
      by rest = ap (λ (k : ℕ). sum_by f (take k (drop start states))) (sym next) ∙ ap (sum_by f) (take_more (drop start states) j 0 inside) ∙ sum_by_push f (take j (drop start states)) (get_or (drop start states) j 0)
          ∙ ap (λ (q : ℕ). sum_by f (take j (drop start states)) + f q) (get_or-drop start states j 0) ∙ ap (λ (s : ℕ). s + f at) rest
          ∙ sym (sum_below-one (part start j) (part start (suc j)) n at (f at) (states_within (start + j) (omega (arith, fits)))
          (ap (λ (s : ℕ). part start j at + s) (counted_there (get_or places at 0) (start + j) (f at) (placed (start + j) (omega (arith, fits)))))
          (λ q small other. omega (arith, counted_not (get_or places q 0) (start + j) (f q) (λ is. other (sym (state_back q small) ∙ ap (λ (k : ℕ). get_or states k 0) is)))))

  -- the sum over the places of a class is that over its states
  pub class_sum-slice : (classes : List ℕ) (class start end : ℕ) → start ≤ end → end ≤ n → ((q : ℕ) → q < n → class_of classes q ≡ class → (start ≤ get_or places q 0) × (get_or places q 0 < end))
      → ((place : ℕ) → start ≤ place → place < end → class_of classes (get_or states place 0) ≡ class) → sum_by f (slice_range states start end) ≡ class_sum n f classes class
  class_sum-slice classes class start end ordered fits inside of =
      let all : start + (end - start) ≡ end = omega (arith, ordered) in
      slice_sum start (end - start) (omega (arith, fits, ordered))
      ∙ sum_below-same (part start (end - start)) (λ q. if class_of classes q == class then f q else 0) n (λ q small. by q small (cases_lt (get_or places q 0) start) (cases_lt (get_or places q 0) end))
    where
      off : (q : ℕ) → q < n → (get_or places q 0 < start) ⊎ (start + (end - start) ≤ get_or places q 0) → class_of classes q ≡ class → ⊥
      off q small (inl low) is = omega (arith, low, (inside q small is).0)
      off q small (inr high) is = omega (arith, high, ordered, (inside q small is).1)

      apart : (q : ℕ) → q < n → (get_or places q 0 < start) ⊎ (start + (end - start) ≤ get_or places q 0) → part start (end - start) q ≡ (if class_of classes q == class then f q else 0)
      apart q small outside = part-out start (end - start) q outside ∙ sym (counted_not (class_of classes q) class (f q) (off q small outside))

      by : (q : ℕ) → q < n → (get_or places q 0 < start) ⊎ (start ≤ get_or places q 0) → (get_or places q 0 < end) ⊎ (end ≤ get_or places q 0) → part start (end - start) q ≡ (if class_of classes q == class then f q else 0)
      by q small (inl low) cases = apart q small (inl low)
      by q small (inr from) (inr high) = apart q small (inr (omega (arith, high, ordered)))
      by q small (inr from) (inl less) = part-in start (end - start) q from (omega (arith, less, ordered))
          ∙ sym (counted_there (class_of classes q) class (f q) (sym (ap (class_of classes) (state_back q small)) ∙ of (get_or places q 0) from less))
