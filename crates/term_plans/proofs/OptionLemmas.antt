-- Values that there are, or are not.
use Rattle.std.proofs.Common.{◌≡◌, ℕ, ◌+◌, ◌-◌, Bool, true, false, nat_le, if◌then◌else◌, List, [], ◌∷◌, ◌++◌, Option, None, Some, refl, ◌∙◌, ap, arith, tests, leb-false}
use Rattle.std.proofs.lemmas.Option.{none-some, same_Some}
use Rattle.formula_truth.specs.Values.{both, and_value, difference}

-- an operation has a value where both arguments have one
pub both_some : (f : ℕ → ℕ → Option ℕ) (x y : Option ℕ) (z : ℕ) → both f x y ≡ Some z → (a : ℕ) × (b : ℕ) × (x ≡ Some a) × (y ≡ Some b) × (f a b ≡ Some z)
both_some f None y z is = absurd (none-some z is)
both_some f (Some a) None z is = absurd (none-some z is)
both_some f (Some a) (Some b) z is = (a, b, refl, refl, is)

pub both_at : (f : ℕ → ℕ → Option ℕ) (x y : Option ℕ) (a b : ℕ) → x ≡ Some a → y ≡ Some b → both f x y ≡ f a b
both_at f x y a b left right = ap (λ o. both f o y) left ∙ ap (λ o. both f (Some a) o) right

pub and_some : (x : Option (List ℕ)) (y : Option ℕ) (zs : List ℕ) → and_value x y ≡ Some zs → (xs : List ℕ) × (b : ℕ) × (x ≡ Some xs) × (y ≡ Some b) × (xs ++ b ∷ [] ≡ zs)
and_some None y zs is = absurd (none-some zs is)
and_some (Some xs) None zs is = absurd (none-some zs is)
and_some (Some xs) (Some b) zs is = (xs, b, refl, refl, same_Some (xs ++ b ∷ []) zs is)

pub and_at : (x : Option (List ℕ)) (y : Option ℕ) (xs : List ℕ) (b : ℕ) → x ≡ Some xs → y ≡ Some b → and_value x y ≡ Some (xs ++ b ∷ [])
and_at x y xs b left right = ap (λ o. and_value o y) left ∙ ap (λ o. and_value (Some xs) o) right

-- a difference is what makes the smaller number the larger one
pub difference_there : (x y z : ℕ) → difference x y ≡ Some z → y + z ≡ x
difference_there x y z = by (nat_le y x) refl
  where
    by : (b : Bool) → nat_le y x ≡ b → (if b then Some (x - y) else None) ≡ Some z → y + z ≡ x
    by true less is = let same : x - y ≡ z = same_Some (x - y) z is in omega (arith, tests, less, same)
    by false more is = absurd (none-some z is)

pub difference_back : (x y z : ℕ) → y + z ≡ x → difference x y ≡ Some z
difference_back x y z sum = by (nat_le y x) refl
  where
    by : (b : Bool) → nat_le y x ≡ b → (if b then Some (x - y) else None) ≡ Some z
    by true less = ap Some (omega (arith, sum))
    by false more = let less = leb-false y x more in absurd (omega (arith, less, sum))
