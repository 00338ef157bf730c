-- States that letters lead from alike.
use Rattle.std.specs.Prelude.{◌≡◌, ℕ, ◌<◌, List}
use Rattle.digit_tuple.specs.Deterministic.{Automaton, letters_of}
use Rattle.residual_classes.specs.Classes.{class_of, next_of}

-- the states have one class, and by each letter lead to one class
pub record AreAlike (d : Automaton) (classes : List ℕ) (p q : ℕ) : Type 0 where
  pub own : class_of classes p ≡ class_of classes q
  pub next : (a : ℕ) → a < letters_of d → class_of classes (next_of d p a) ≡ class_of classes (next_of d q a)
