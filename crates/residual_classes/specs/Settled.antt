-- States of classes by some of which others are still to be parted.
use Rattle.std.specs.Prelude.{◌≡◌, ◌≢◌, ℕ, ◌<◌, ◌≤◌, ◌⊎◌, List, length, ◌↔◌}
use Rattle.std.specs.List.{All, Contains}
use Rattle.digit_tuple.specs.Deterministic.{Automaton, letters_of, states_of}
use Rattle.digit_tuple.specs.Keys.{KeyTransition, transition_at}
use Rattle.residual_classes.specs.Classes.{class_of, dead_class, next_of}
use Rattle.residual_classes.specs.CoarseClasses.{HaveOneOutput}

-- two states have one class, or that of one of them is pending
abbrev pub AreSettled : List ℕ → List ℕ → ℕ → ℕ → Type 0
AreSettled classes pending p q = (class_of classes p ≡ class_of classes q) ⊎ (Contains pending (class_of classes p) ⊎ Contains pending (class_of classes q))

-- states of one class have one output, and lead by each letter into one class, unless one of the two classes is pending
pub record IsSettled (d : Automaton) (outputs classes pending : List ℕ) : Type 0 where
  pub one_output : HaveOneOutput d outputs classes
  pub led : (p q a : ℕ) → p ≤ states_of d → q ≤ states_of d → a < letters_of d → class_of classes p ≡ class_of classes q → AreSettled classes pending (next_of d p a) (next_of d q a)

-- states of one class are all in the set, or none of them is
abbrev pub AreApart : List ℕ → List ℕ → Type 0
AreApart classes set = (p q : ℕ) → class_of classes p ≡ class_of classes q → Contains set p → Contains set q

-- each of so many classes but the sink's is pending
abbrev pub AreAllPending : ℕ → List ℕ → Type 0
AreAllPending count pending = (class : ℕ) → 0 < class → class < count → Contains pending class

-- the parts are the states of each class but the sink's
pub record AreLiveParts (d : Automaton) (classes : List ℕ) (parts : List KeyTransition) : Type 0 where
  pub of : All (λ part. (q : ℕ) → Contains part.key q ↔ ((q < states_of d) × (class_of classes q ≢ dead_class d classes) × (class_of classes q ≡ part.letter))) parts
  pub all : (q : ℕ) → q < states_of d → class_of classes q ≢ dead_class d classes → (place : ℕ) × (place < length parts) × ((transition_at parts place).letter ≡ class_of classes q)
