-- Sums and products over states, and sums over those of a class.
use Rattle.std.specs.Prelude.{◌==◌, ℕ, zero, suc, ◌+◌, ◌*◌, List, if◌then◌else◌}
use Rattle.residual_classes.specs.Classes.{class_of}

-- the sum over the numbers below one
abbrev pub sum_below : ℕ → (ℕ → ℕ) → ℕ
sum_below zero f = 0
sum_below (suc n) f = sum_below n f + f n

-- the product over the numbers below one
abbrev pub product_below : ℕ → (ℕ → ℕ) → ℕ
product_below zero f = 1
product_below (suc n) f = product_below n f * f n

-- the sum over those of so many states that have the class
abbrev pub class_sum : ℕ → (ℕ → ℕ) → List ℕ → ℕ → ℕ
class_sum states f classes class = sum_below states (λ q. if class_of classes q == class then f q else 0)

-- how many of so many states have the class
abbrev pub class_size : ℕ → List ℕ → ℕ → ℕ
class_size states classes class = class_sum states (λ q. 1) classes class
