-- Sums and products over states.
use Rattle.std.proofs.Common.{◌≡◌, ℕ, zero, suc, ◌+◌, ◌*◌, ◌^◌, ◌-◌, ◌<◌, ◌≤◌, ◌⊎◌, inl, inr, refl, sym, ap, ◌∙◌, subst, arith}
use Rattle.std.proofs.lemmas.Bool.{cases_lt}
use Rattle.std.proofs.lemmas.Nat.{pow-add, mul-le, mul-pow}
use native.Mathlib.Nat.{one-le-pow, pow-le-pow_left, pow-zero}
use Rattle.residual_classes.specs.Weights.{sum_below, product_below}

module _ (f g : ℕ → ℕ) where
  pub sum_below-same : (n : ℕ) → ((q : ℕ) → q < n → f q ≡ g q) → sum_below n f ≡ sum_below n g
  sum_below-same zero same = refl
  sum_below-same (suc n) same = omega (arith, sum_below-same n (λ q less. same q (omega arith)), same n (omega arith))

  pub sum_below-le : (n : ℕ) → ((q : ℕ) → q < n → f q ≤ g q) → sum_below n f ≤ sum_below n g
  sum_below-le zero le = omega arith
  sum_below-le (suc n) le = omega (arith, sum_below-le n (λ q less. le q (omega arith)), le n (omega arith))

  pub sum_below-add : (n : ℕ) → sum_below n (λ q. f q + g q) ≡ sum_below n f + sum_below n g
  sum_below-add zero = refl
  sum_below-add (suc n) = omega (arith, sum_below-add n)

  -- with one more at one number
  pub sum_below-one : (n at more : ℕ) → at < n → g at ≡ f at + more → ((q : ℕ) → q < n → (q ≡ at → ⊥) → g q ≡ f q) → sum_below n g ≡ sum_below n f + more
  sum_below-one zero at more less here others = absurd (omega arith)
  sum_below-one (suc n) at more less here others = by (cases_lt at n) (λ before. sum_below-one n at more before here (λ q small. others q (omega (arith, small))))
    where
      by : (at < n) ⊎ (n ≤ at) → (at < n → sum_below n g ≡ sum_below n f + more) → sum_below (suc n) g ≡ sum_below (suc n) f + more
      by (inl before) rest = omega (arith, rest before, others n (omega arith) (λ is. omega (arith, is, before)))
      by (inr past) rest =
          let is : at ≡ n = omega (arith, past, less) in
          omega (arith, sum_below-same n (λ q small. sym (others q (omega (arith, small)) (λ at_q. omega (arith, at_q, is, small)))), ap g is, ap f is, here)

  pub product_below-le : (n : ℕ) → ((q : ℕ) → q < n → f q ≤ g q) → product_below n f ≤ product_below n g
  product_below-le zero le = omega arith
  product_below-le (suc n) le = mul-le (product_below n f) (f n) (product_below n g) (g n) (product_below-le n (λ q less. le q (omega arith))) (le n (omega arith))

  pub product_below-mul : (n : ℕ) → product_below n (λ q. f q * g q) ≡ product_below n f * product_below n g
  product_below-mul zero = refl
  product_below-mul (suc n) = ap (λ (k : ℕ). k * (f n * g n)) (product_below-mul n) ∙ turned (product_below n f) (product_below n g) (f n) (g n)
    where
      turned : (a b c d : ℕ) → a * b * (c * d) ≡ a * c * (b * d)
      turned a b c d = omega arith

-- a product of powers of one number
pub product_below-power : (base : ℕ) (f : ℕ → ℕ) (n : ℕ) → product_below n (λ q. base ^ f q) ≡ base ^ sum_below n f
product_below-power base f zero = sym (pow-zero base)
product_below-power base f (suc n) = ap (λ (k : ℕ). k * base ^ f n) (product_below-power base f n) ∙ sym (pow-add base (sum_below n f) (f n))

pub product_below-pos : (f : ℕ → ℕ) (n : ℕ) → ((q : ℕ) → q < n → 0 < f q) → 0 < product_below n f
product_below-pos f zero pos = omega arith
product_below-pos f (suc n) pos = omega (arith, mul-le 1 1 (product_below n f) (f n) (omega (arith, product_below-pos f n (λ q less. pos q (omega arith)))) (omega (arith, pos n (omega arith))))

-- a factor that is not 0 is cancelled
pub mul-le-cancel : (a b z : ℕ) → 0 < z → a * z ≤ b * z → a ≤ b
mul-le-cancel a b z pos le = by (cases_lt b a)
  where
    by : (b < a) ⊎ (a ≤ b) → a ≤ b
    by (inr fine) = fine
    by (inl more) = absurd (omega (arith, le, mul-le (b + 1) z a z (omega (arith, more)) (omega arith), pos, spread))
      where
        spread : (b + 1) * z ≡ b * z + z
        spread = omega arith

-- two parts of a number: four times the product is at most the square
four_parts : (k l : ℕ) → 4 * k * l ≤ (k + l) * (k + l)
four_parts k l = by (cases_lt k l)
  where
    up : (a e : ℕ) → 4 * a * (a + e) ≤ (a + (a + e)) * (a + (a + e))
    up a e = omega arith

    down : (a e : ℕ) → 4 * (a + e) * a ≤ (a + e + a) * (a + e + a)
    down a e = omega arith

    by : (k < l) ⊎ (l ≤ k) → 4 * k * l ≤ (k + l) * (k + l)
    by (inl less) =
        let is : k + (l - k) ≡ l = omega (arith, less) in
        subst (λ (m : ℕ). 4 * k * m ≤ (k + m) * (k + m)) is (up k (l - k))
    by (inr more) =
        let is : l + (k - l) ≡ k = omega (arith, more) in
        subst (λ (m : ℕ). 4 * m * l ≤ (m + l) * (m + l)) is (down l (k - l))

-- a class of k + l states is cut: the part with the smaller weight costs four times its size
pub cut_costs : (k l v w : ℕ) → v ≤ w → (4 * k) ^ v * l ^ w ≤ (k + l) ^ (v + w)
cut_costs k l v w le = rw (sym split) (both)
  where
    j : ℕ
    j = w - v

    split : v + j ≡ w
    split = omega (arith, le)

    both : (4 * k) ^ v * l ^ (v + j) ≤ (k + l) ^ (v + (v + j))
    both = rw (left, right) (mul-le ((4 * k * l) ^ v) (l ^ j) (((k + l) * (k + l)) ^ v) ((k + l) ^ j) (pow-le-pow_left (four_parts k l) v) (pow-le-pow_left (omega arith) j))
      where
        left : (4 * k) ^ v * l ^ (v + j) ≡ (4 * k * l) ^ v * l ^ j
        left = ap (λ (m : ℕ). (4 * k) ^ v * m) (pow-add l v j) ∙ assoc ((4 * k) ^ v) (l ^ v) (l ^ j) ∙ ap (λ (m : ℕ). m * l ^ j) (sym (mul-pow (4 * k) l v))
          where
            assoc : (a b c : ℕ) → a * (b * c) ≡ a * b * c
            assoc a b c = omega arith

        right : (k + l) ^ (v + (v + j)) ≡ ((k + l) * (k + l)) ^ v * (k + l) ^ j
        right = pow-add (k + l) v (v + j) ∙ ap (λ (m : ℕ). (k + l) ^ v * m) (pow-add (k + l) v j) ∙ assoc ((k + l) ^ v) ((k + l) ^ v) ((k + l) ^ j) ∙ ap (λ (m : ℕ). m * (k + l) ^ j) (sym (mul-pow (k + l) (k + l) v))
          where
            assoc : (a b c : ℕ) → a * (b * c) ≡ a * b * c
            assoc a b c = omega arith

-- weights are exchanged, and the exchange costs no more than it gives
pub product_below-traded : (old new : ℕ → ℕ) (v w : ℕ → ℕ) (a b k n : ℕ) → 0 < k → ((q : ℕ) → q < n → new q * k ^ (v q + w q) ≤ old q * (a ^ v q * b ^ w q))
    → a ^ sum_below n v * b ^ sum_below n w ≤ k ^ (sum_below n v + sum_below n w) → product_below n new ≤ product_below n old
product_below-traded old new v w a b k n pos each fair = mul-le-cancel (product_below n new) (product_below n old) (k ^ (sum_below n v + sum_below n w)) (one-le-pow (sum_below n v + sum_below n w) k pos) (omega (arith, whole, mul-le (product_below n old) (a ^ sum_below n v * b ^ sum_below n w) (product_below n old) (k ^ (sum_below n v + sum_below n w)) (omega arith) fair))
  where
    left : product_below n (λ q. new q * k ^ (v q + w q)) ≡ product_below n new * k ^ (sum_below n v + sum_below n w)
    left = product_below-mul new (λ q. k ^ (v q + w q)) n ∙ ap (λ (m : ℕ). product_below n new * m) (product_below-power k (λ q. v q + w q) n ∙ ap (λ (m : ℕ). k ^ m) (sum_below-add v w n))

    right : product_below n (λ q. old q * (a ^ v q * b ^ w q)) ≡ product_below n old * (a ^ sum_below n v * b ^ sum_below n w)
    right = product_below-mul old (λ q. a ^ v q * b ^ w q) n ∙ ap (λ (m : ℕ). product_below n old * m)
        (product_below-mul (λ q. a ^ v q) (λ q. b ^ w q) n ∙ ap (λ (m : ℕ). m * product_below n (λ q. b ^ w q)) (product_below-power a v n) ∙ ap (λ (m : ℕ). a ^ sum_below n v * m) (product_below-power b w n))

    whole : product_below n new * k ^ (sum_below n v + sum_below n w) ≤ product_below n old * (a ^ sum_below n v * b ^ sum_below n w)
    whole = subst (λ (m : ℕ). m ≤ product_below n old * (a ^ sum_below n v * b ^ sum_below n w)) left
        (subst (λ (m : ℕ). product_below n (λ q. new q * k ^ (v q + w q)) ≤ m) right
        (product_below-le (λ q. new q * k ^ (v q + w q)) (λ q. old q * (a ^ v q * b ^ w q)) n each))
