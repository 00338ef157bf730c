-- A state of each class.
use Rattle.std.specs.Prelude.{◌≡◌, ℕ, ◌<◌, List, length}
use Rattle.residual_classes.specs.Classes.{class_of}

-- the first states of a table have states of their classes in the list, at their classes
pub record AreLeaders (classes leaders : List ℕ) (count : ℕ) : Type 0 where
  pub width : length leaders ≡ length classes
  pub within : (q : ℕ) → q < count → class_of leaders (class_of classes q) < count
  pub same : (q : ℕ) → q < count → class_of classes (class_of leaders (class_of classes q)) ≡ class_of classes q

-- no two states have one class
abbrev pub AreAlone : List ℕ → Type 0
AreAlone classes = (p q : ℕ) → p < length classes → q < length classes → class_of classes p ≡ class_of classes q → p ≡ q
