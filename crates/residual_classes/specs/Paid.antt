-- How many looks at transitions have been paid for.
use Rattle.std.specs.Prelude.{◌≡◌, ℕ, ◌*◌, ◌<◌, ◌≤◌, ◌^◌, List}
use Rattle.std.specs.List.{Contains}
use Rattle.residual_classes.specs.Classes.{class_of}
use Rattle.residual_classes.specs.Weights.{class_size, product_below}

-- Each state is worth four times the largest class while it is in the sink's, later the size of its class, and four times that while the class is
-- pending. Four to the looks, times what each state is worth to the number of transitions that lead to it, is at most what all are worth at the start.
pub record IsPaid (states : ℕ) (leading : ℕ → ℕ) (transitions largest : ℕ) (classes pending : List ℕ) (looks : ℕ) : Type 0 where
  pub worth : ℕ → ℕ
  pub off : (q : ℕ) → q < states → class_of classes q ≡ 0 → 4 * largest ≤ worth q
  pub live : (q : ℕ) → q < states → 0 < class_of classes q → class_size states classes (class_of classes q) ≤ worth q
  pub waiting : (q : ℕ) → q < states → 0 < class_of classes q → Contains pending (class_of classes q) → 4 * class_size states classes (class_of classes q) ≤ worth q
  pub paid : 4 ^ looks * product_below states (λ q. worth q ^ leading q) ≤ (4 * largest) ^ transitions
