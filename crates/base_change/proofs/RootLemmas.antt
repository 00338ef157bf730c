-- Powers, and roots of two bases.
use Rattle.std.proofs.Common.{◌≡◌, ℕ, zero, suc, ◌+◌, ◌-◌, ◌*◌, ◌^◌, ◌<◌, ◌≤◌, ◌⊎◌, inl, inr, sym, ap, ◌∙◌, arith}
use Rattle.std.proofs.Math.Nat.{pow-zero, pow-succ', one-le-pow, mul-le-mul_left}
use Rattle.std.proofs.lemmas.Bool.{cases_lt}
use Rattle.base_change.specs.Roots.{BasesAreRelatedInOneWay}

-- a power is positive
pub pow-positive : (r n : ℕ) → 1 ≤ r → 1 ≤ r ^ n
pow-positive r n some = one-le-pow n r (omega arith)

-- a power grows by the next factor
pub pow-next : (r n : ℕ) → 1 ≤ r → r ^ n ≤ r ^ suc n
pow-next r n some = let grown : r ^ n * 1 ≤ r ^ n * r = mul-le-mul_left (r ^ n) some in omega (arith, pow-succ' r n, grown)

pub pow-less : (r n : ℕ) → 2 ≤ r → r ^ n < r ^ suc n
pow-less r n some = let grown : r ^ n * 2 ≤ r ^ n * r = mul-le-mul_left (r ^ n) some in omega (arith, pow-succ' r n, grown, pow-positive r n (omega (arith, some)))

-- powers with greater exponents are at least as great
pub pow-plus : (r n more : ℕ) → 1 ≤ r → r ^ n ≤ r ^ (n + more)
pow-plus r n zero some = let same : r ^ (n + 0) ≡ r ^ n = ap (λ k. r ^ k) (let at : n + 0 ≡ n = omega arith in at) in omega (arith, same)
pow-plus r n (suc more) some =
    let same : r ^ (n + suc more) ≡ r ^ suc (n + more) = ap (λ k. r ^ k) (let at : n + suc more ≡ suc (n + more) = omega arith in at) in
    omega (arith, same, pow-plus r n more some, pow-next r (n + more) some)

pub pow-up : (r n m : ℕ) → 1 ≤ r → n ≤ m → r ^ n ≤ r ^ m
pow-up r n m some up = let same : r ^ (n + (m - n)) ≡ r ^ m = ap (λ k. r ^ k) (let at : n + (m - n) ≡ m = omega (arith, up) in at) in omega (arith, same, pow-plus r n (m - n) some)

pub pow-strictly-up : (r n m : ℕ) → 2 ≤ r → n < m → r ^ n < r ^ m
pow-strictly-up r n m some up = omega (arith, pow-less r n some, pow-up r (suc n) m (omega (arith, some)) (omega (arith, up)))

-- one power has one exponent
pub pow-injective : (r n m : ℕ) → 2 ≤ r → r ^ n ≡ r ^ m → n ≡ m
pow-injective r n m some same = by (cases_lt n m) (cases_lt m n)
  where
    by : (n < m) ⊎ (m ≤ n) → (m < n) ⊎ (n ≤ m) → n ≡ m
    by (inl less) other = absurd (omega (arith, same, pow-strictly-up r n m some less))
    by (inr more) (inl less) = absurd (omega (arith, same, pow-strictly-up r m n some less))
    by (inr more) (inr same) = omega (arith, more, same)

-- a root of a base is at least 2, and at most the base
pub root-least : (r b k : ℕ) → 2 ≤ k → k ≡ r ^ b → 2 ≤ r
root-least zero zero k some is = absurd (omega (arith, some, is, pow-zero 0))
root-least zero (suc b) k some is = absurd (omega (arith, some, is, pow-succ' 0 b))
root-least (suc zero) b k some is = absurd (omega (arith, some, is, one-power b))
  where
    one-power : (n : ℕ) → 1 ^ n ≡ 1
    one-power zero = pow-zero 1
    one-power (suc n) = pow-succ' 1 n ∙ (let step : 1 * 1 ^ n ≡ 1 ^ n = omega arith in step) ∙ one-power n
root-least (suc (suc r)) b k some is = omega arith

pub root-most : (r b k : ℕ) → 2 ≤ k → k ≡ r ^ b → r ≤ k
root-most r zero k some is = absurd (omega (arith, some, is, pow-zero r))
root-most r (suc b) k some is =
    let grown : r * 1 ≤ r * r ^ b = mul-le-mul_left r (pow-positive r b (let low = root-least r (suc b) k some is in omega (arith, low))) in
    omega (arith, is, pow-succ' r b, grown)

-- the root has one exponent for each base
pub related_in_one_way : BasesAreRelatedInOneWay
related_in_one_way old new common other some more is are =
    let root : common.root ≡ other.root = omega (arith, is.least other.root other.old_power other.new_power are.old_is are.new_is, are.least common.root common.old_power common.new_power is.old_is is.new_is) in
    let low : 2 ≤ common.root = root-least common.root common.old_power old some is.old_is in
    let first : common.old_power ≡ other.old_power = pow-injective common.root common.old_power other.old_power low (sym is.old_is ∙ are.old_is ∙ ap (λ r. r ^ other.old_power) (sym root)) in
    let second : common.new_power ≡ other.new_power = pow-injective common.root common.new_power other.new_power low (sym is.new_is ∙ are.new_is ∙ ap (λ r. r ^ other.new_power) (sym root)) in
    λ i. record { root = root i; old_power = first i; new_power = second i }

pub first_power : (r : ℕ) → r ^ 1 ≡ r
first_power r = let unit : r * r ^ 0 ≡ r * 1 = ap (λ n. r * n) (pow-zero r) in omega (arith, pow-succ' r 0, unit)

-- where the powers of the root have passed a number that is none of the first of them, no power is the number
pub no_exponent : (root number exponent : ℕ) → 2 ≤ root → ((e : ℕ) → e < exponent → root ^ e < number) → number < root ^ exponent → (e : ℕ) → number ≡ root ^ e → ⊥
no_exponent root number exponent low below past e is = by (cases_lt e exponent)
  where
    by : (e < exponent) ⊎ (exponent ≤ e) → ⊥
    by (inl less) = omega (arith, below e less, is)
    by (inr more) = omega (arith, pow-up root exponent e (omega (arith, low)) more, past, is)
