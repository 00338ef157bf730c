-- Looks at transitions, and what they have been paid with.
use Rattle.std.proofs.Common.{◌≡◌, ◌==◌, ℕ, zero, suc, ◌+◌, ◌*◌, ◌^◌, ◌<◌, ◌≤◌, ◌⊎◌, inl, inr, Bool, if◌then◌else◌, List, [], ◌∷◌, ◌++◌, sym, ap, ◌∙◌, subst, eq-eqb, arith}
use Rattle.std.specs.List.{Contains}
use Rattle.std.proofs.lemmas.Bool.{cases_eq, cases_lt, ne_eqb}
use Rattle.std.proofs.lemmas.List.Elements.{Contains-append_left, Contains-push}
use Rattle.std.proofs.lemmas.Nat.{mul-le, mul-pow, pow-add, pow_below}
use native.Mathlib.Nat.{one-le-pow, pow-le-pow_left, pow-le-pow_right, pow-suc, pow-zero}
use Rattle.residual_classes.specs.Classes.{class_of}
use Rattle.residual_classes.specs.Paid.{IsPaid}
use Rattle.residual_classes.specs.Weights.{class_size, class_sum, product_below, sum_below}
use Rattle.residual_classes.proofs.ClassSumLemmas.{class_sum-has}
use Rattle.residual_classes.proofs.WeightLemmas.{product_below-le, product_below-mul, product_below-pos, product_below-power}

-- powers of larger numbers, and by larger exponents
pub base_le : (n m i : ℕ) → n ≤ m → n ^ i ≤ m ^ i
base_le n m i le = pow-le-pow_left le i

pub exponent_le : (n i j : ℕ) → 0 < n → i ≤ j → n ^ i ≤ n ^ j
exponent_le n i j pos le = pow-le-pow_right pos le

-- a power of a power of 2
power_twice : (a b : ℕ) → (2 ^ a) ^ b ≡ 2 ^ (a * b)
power_twice a zero = pow-zero (2 ^ a) ∙ ap (λ (k : ℕ). 2 ^ k) zero_is
  where
    zero_is : 0 ≡ a * 0
    zero_is = omega arith
power_twice a (suc b) = pow-suc (2 ^ a) b ∙ ap (λ (k : ℕ). k * 2 ^ a) (power_twice a b) ∙ sym (pow-add 2 (a * b) a) ∙ ap (λ (k : ℕ). 2 ^ k) product
  where
    product : a * b + a ≡ a * suc b
    product = omega arith

-- a larger power of 2 has a larger exponent
exponents_le : (a b : ℕ) → 2 ^ a ≤ 2 ^ b → a ≤ b
exponents_le a b le = by (cases_lt b a)
  where
    by : (b < a) ⊎ (a ≤ b) → a ≤ b
    by (inr fine) = fine
    by (inl less) = absurd (omega (arith, le, pow_below b a less))

module _ (states : ℕ) (leading : ℕ → ℕ) (transitions largest : ℕ) where
  -- nothing is looked at yet, and all states are in the sink's class
  pub IsPaid-none : (classes : List ℕ) → 0 < largest → sum_below states leading ≤ transitions → ((q : ℕ) → q < states → class_of classes q ≡ 0) → IsPaid states leading transitions largest classes [] 0
  IsPaid-none classes some few sink = record {
    worth = λ q. 4 * largest;
    off = λ q small is. omega arith;
    live = λ q small above. absurd (omega (arith, above, sink q small));
    waiting = λ q small above there. absurd (omega (arith, above, sink q small));
    paid = omega (arith, ap (λ (k : ℕ). 4 ^ 0 * k) (product_below-power (4 * largest) leading states), pow-zero 4, exponent_le (4 * largest) (sum_below states leading) transitions (omega (arith, some)) few);
  }

  -- a pending class is taken, and all transitions to it are looked at
  module _ (classes pending rest : List ℕ) (class looks : ℕ) (last : pending ≡ rest ++ class ∷ []) (once : Contains rest class → ⊥) (above : 0 < class) (before : IsPaid states leading transitions largest classes pending looks) where
    abbrev worth_taken : ℕ → ℕ
    worth_taken q = if class_of classes q == class then class_size states classes class else before.worth q

    worth_on : (q : ℕ) → class_of classes q ≡ class → worth_taken q ≡ class_size states classes class
    worth_on q is = ap (λ (b : Bool). if b then class_size states classes class else before.worth q) (eq-eqb (class_of classes q) class is)

    worth_off : (q : ℕ) → (class_of classes q ≡ class → ⊥) → worth_taken q ≡ before.worth q
    worth_off q other = ap (λ (b : Bool). if b then class_size states classes class else before.worth q) (ne_eqb (class_of classes q) class other)

    was : (k : ℕ) → Contains rest k → Contains pending k
    was k there = subst (λ (xs : List ℕ). Contains xs k) (sym last) (Contains-append_left rest (class ∷ []) k there)

    was_here : Contains pending class
    was_here = subst (λ (xs : List ℕ). Contains xs class) (sym last) (Contains-push rest class)

    live : (q : ℕ) → q < states → 0 < class_of classes q → (class_of classes q ≡ class) ⊎ (class_of classes q ≡ class → ⊥) → class_size states classes (class_of classes q) ≤ worth_taken q
    live q small from (inl is) = omega (arith, ap (class_size states classes) is, worth_on q is)
    live q small from (inr other) = omega (arith, before.live q small from, worth_off q other)

    waiting : (q : ℕ) → q < states → 0 < class_of classes q → Contains rest (class_of classes q) → (class_of classes q ≡ class) ⊎ (class_of classes q ≡ class → ⊥) → 4 * class_size states classes (class_of classes q) ≤ worth_taken q
    waiting q small from there (inl is) = absurd (once (subst (Contains rest) is there))
    waiting q small from there (inr other) = omega (arith, before.waiting q small from (was (class_of classes q) there), worth_off q other)

    abbrev weight : ℕ → ℕ
    weight q = if class_of classes q == class then leading q else 0

    pointwise : (q : ℕ) → q < states → 4 ^ weight q * worth_taken q ^ leading q ≤ before.worth q ^ leading q
    pointwise q small = by (cases_eq (class_of classes q) class)
      where
        by : (class_of classes q ≡ class) ⊎ (class_of classes q ≡ class → ⊥) → 4 ^ weight q * worth_taken q ^ leading q ≤ before.worth q ^ leading q
        by (inl is) = omega (
          arith,
          ap (λ (b : Bool). 4 ^ (if b then leading q else 0) * (if b then class_size states classes class else before.worth q) ^ leading q) (eq-eqb (class_of classes q) class is),
          mul-pow 4 (class_size states classes class) (leading q),
          base_le (4 * class_size states classes class) (before.worth q) (leading q) (omega (arith, ap (class_size states classes) is, before.waiting q small (omega (arith, is, above)) (subst (Contains pending) (sym is) was_here))),
        )
        by (inr other) = omega (
          arith,
          ap (λ (b : Bool). 4 ^ (if b then leading q else 0) * (if b then class_size states classes class else before.worth q) ^ leading q) (ne_eqb (class_of classes q) class other),
          ap (λ (k : ℕ). k * before.worth q ^ leading q) (pow-zero 4),
        )

    product : 4 ^ class_sum states leading classes class * product_below states (λ q. worth_taken q ^ leading q) ≤ product_below states (λ q. before.worth q ^ leading q)
    product = omega (
      arith,
      ap (λ (k : ℕ). k * product_below states (λ q. worth_taken q ^ leading q)) (product_below-power 4 weight states),
      product_below-mul (λ q. 4 ^ weight q) (λ q. worth_taken q ^ leading q) states,
      product_below-le (λ q. 4 ^ weight q * worth_taken q ^ leading q) (λ q. before.worth q ^ leading q) states pointwise,
    )

    pub IsPaid-taken : IsPaid states leading transitions largest classes rest (looks + class_sum states leading classes class)
    IsPaid-taken = record {
      worth = worth_taken;
      off = λ q small is. omega (arith, before.off q small is, worth_off q (λ at. omega (arith, at, is, above)));
      live = λ q small from. live q small from (cases_eq (class_of classes q) class);
      waiting = λ q small from there. waiting q small from there (cases_eq (class_of classes q) class);
      paid = omega (
        arith,
        before.paid,
        ap (λ (k : ℕ). k * product_below states (λ q. worth_taken q ^ leading q)) (pow-add 4 looks (class_sum states leading classes class)),
        assoc (4 ^ looks) (4 ^ class_sum states leading classes class) (product_below states (λ q. worth_taken q ^ leading q)),
        mul-le (4 ^ looks) (4 ^ class_sum states leading classes class * product_below states (λ q. worth_taken q ^ leading q)) (4 ^ looks) (product_below states (λ q. before.worth q ^ leading q)) (omega arith) product,
      );
    }
      where
        assoc : (a b c : ℕ) → a * b * c ≡ a * (b * c)
        assoc a b c = omega arith

  -- looks that are paid for are few
  pub few_looks : (classes pending : List ℕ) (looks digits : ℕ) → 0 < largest → largest ≤ 2 ^ digits → IsPaid states leading transitions largest classes pending looks → 2 * looks ≤ (2 + digits) * transitions
  few_looks classes pending looks digits some below before = exponents_le (2 * looks) ((2 + digits) * transitions) (omega (arith, power_twice 2 looks, worthy, bounded, power_twice (2 + digits) transitions))
    where
      something : (q : ℕ) → q < states → (0 < class_of classes q) ⊎ (class_of classes q ≤ 0) → 0 < before.worth q ^ leading q
      something q small (inl above) = omega (arith, one-le-pow (leading q) (before.worth q) (omega (arith, before.live q small above, class_sum-has states (λ p. 1) classes q small)))
      something q small (inr none) = omega (arith, one-le-pow (leading q) (before.worth q) (omega (arith, some, before.off q small (omega (arith, none)))))

      worthy : 4 ^ looks ≤ (4 * largest) ^ transitions
      worthy = omega (
        arith,
        before.paid,
        mul-le (4 ^ looks) 1 (4 ^ looks) (product_below states (λ q. before.worth q ^ leading q)) (omega arith)
            (omega (arith, product_below-pos (λ q. before.worth q ^ leading q) states (λ q small. something q small (cases_lt 0 (class_of classes q))))),
      )

      bounded : (4 * largest) ^ transitions ≤ (2 ^ (2 + digits)) ^ transitions
      bounded = base_le (4 * largest) (2 ^ (2 + digits)) transitions (omega (arith, below, pow-add 2 2 digits))
