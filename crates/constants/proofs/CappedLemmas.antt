-- Sums that stay at the greatest number of 128 bits.
use Rattle.std.proofs.Common.{◌≡◌, ℕ, zero, suc, ◌+◌, ◌-◌, ◌^◌, ◌<◌, ◌≤◌, min, Bool, true, false, cond, nat_eq, List, [], ◌∷◌, length, get_or, set, ◌⊎◌, inl, inr, refl, ap, sym, ◌∙◌, subst, arith}
use Rattle.std.specs.List.{All, sum_by}
use Rattle.std.proofs.lemmas.Bool.{cases_eq, eq-eqb, ne_eqb}
use Rattle.std.proofs.lemmas.Grind.{get_or-set_at}
use Rattle.std.proofs.lemmas.List.{get_or-set_other}
use Rattle.std.proofs.lemmas.List.Sums.{sum_by-cons}
use Rattle.numeration.proofs.CountLemmas.{sum_below}
use Rattle.constants.specs.WordCounts.{capped}

min-add : (c m n k l : ℕ) → min m c ≡ min k c → min n c ≡ min l c → min (m + n) c ≡ min (k + l) c
min-add c m n k l first second = omega (arith, first, second)

pub capped-add : (m n k l : ℕ) → capped m ≡ capped k → capped n ≡ capped l → capped (m + n) ≡ capped (k + l)
capped-add m n k l first second = min-add (2 ^ 128 - 1) m n k l first second

min-again : (c m : ℕ) → min (min m c) c ≡ min m c
min-again c m = omega arith

pub capped-again : (m : ℕ) → capped (capped m) ≡ capped m
capped-again m = min-again (2 ^ 128 - 1) m

-- a sum of which the parts are equal as far as they are capped
pub capped-sum_by : {X : Type 0} (f g : X → ℕ) (xs : List X) → All (λ x. capped (f x) ≡ capped (g x)) xs → capped (sum_by f xs) ≡ capped (sum_by g xs)
capped-sum_by f g [] same = refl
capped-sum_by f g (x ∷ xs) same =
    ap capped (sum_by-cons f x xs)
    ∙ capped-add (f x) (sum_by f xs) (g x) (sum_by g xs) (same 0 x (omega arith)) (capped-sum_by f g xs (λ k y within. same (suc k) y (omega arith)))
    ∙ ap capped (sym (sum_by-cons g x xs))

pub capped-below : (f g : ℕ → ℕ) (n : ℕ) → ((k : ℕ) → k < n → capped (f k) ≡ capped (g k)) → capped (sum_below f n) ≡ capped (sum_below g n)
capped-below f g zero same = refl
capped-below f g (suc n) same =
    capped-add (sum_below f n) (f n) (sum_below g n) (g n) (capped-below f g n (λ k below. same k (omega (arith, below)))) (same n (omega arith))

pub capped-cond : (b : Bool) (m n : ℕ) → capped m ≡ capped n → capped (cond {A = ℕ} b m 0) ≡ capped (cond {A = ℕ} b n 0)
capped-cond true m n same = same
capped-cond false m n same = refl

-- a count added at a place
pub capped-set : (xs : List ℕ) (t count v q before s : ℕ) → q < length xs → v ≡ capped (get_or xs t 0 + count) → get_or xs q 0 ≡ capped (before + s)
    → get_or (set xs t v) q 0 ≡ capped (before + (s + cond {A = ℕ} (nat_eq t q) count 0))
capped-set xs t count v q before s within is was = by (cases_eq t q)
  where
    by : (t ≡ q) ⊎ (t ≡ q → ⊥) → get_or (set xs t v) q 0 ≡ capped (before + (s + cond {A = ℕ} (nat_eq t q) count 0))
    by (inl same) =
        get_or-set_at xs t q v 0 (sym same) (subst (λ k. k < length xs) (sym same) within)
        ∙ is
        ∙ ap (λ k. capped (get_or xs k 0 + count)) same
        ∙ ap (λ k. capped (k + count)) was
        ∙ capped-add (capped (before + s)) count (before + s) count (capped-again (before + s)) refl
        ∙ ap capped (let e : (before + s) + count ≡ before + (s + count) = omega arith in e)
        ∙ ap (λ t. capped (before + (s + cond {A = ℕ} t count 0))) (sym (eq-eqb t q same))
    by (inr apart) =
        get_or-set_other xs t q v 0 (λ e. apart (sym e))
        ∙ was
        ∙ ap capped (let e : before + s ≡ before + (s + 0) = omega arith in e)
        ∙ ap (λ t. capped (before + (s + cond {A = ℕ} t count 0))) (sym (ne_eqb t q apart))

-- a capped count against a number of 64 bits
less-uncapped : (c count rest total : ℕ) → count ≡ min total c → rest < count → rest < total
less-uncapped c count rest total is less = omega (arith, is, less)

same-uncapped : (c count rest total : ℕ) → count ≡ min total c → count ≤ rest → rest < c → count ≡ total
same-uncapped c count rest total is most small = omega (arith, is, most, small)

pub capped-less : (count rest total : ℕ) → count ≡ capped total → rest < count → rest < total
capped-less count rest total is less = less-uncapped (2 ^ 128 - 1) count rest total is less

pub capped-exact : (count rest total : ℕ) → count ≡ capped total → count ≤ rest → rest < 2 ^ 64 → count ≡ total
capped-exact count rest total is most small = same-uncapped (2 ^ 128 - 1) count rest total is most (omega (arith, small))

pub capped-most : (count number total : ℕ) → count ≡ capped total → count ≤ number → number < 2 ^ 64 → total ≤ number
capped-most count number total is most small = let exact : count ≡ total = capped-exact count number total is most small in omega (arith, exact, most)
