-- Transitions gathered by letter.
use Rattle.std.specs.Prelude.{◌≡◌, ℕ, ◌<◌, List, length, map, ◌↔◌}
use Rattle.std.specs.List.{Contains}
use Rattle.digit_tuple.specs.declared.transitions.Transition.{Transition}
use Rattle.digit_tuple.specs.Keys.{KeyTransition, transition_at}
use Rattle.digit_tuple.specs.Reversed.{transition_to}
use Rattle.residual_classes.specs.Classes.{class_of}

-- there is a transition by the letter, and the set has the targets of the transitions by it
pub record IsGathered (transitions : List Transition) (letter : ℕ) (set : List ℕ) : Type 0 where
  pub transition : (target : ℕ) × Contains transitions (transition_to letter target)
  pub targets : (q : ℕ) → Contains set q ↔ Contains transitions (transition_to letter q)

-- there is a group for each letter of a transition
abbrev pub HaveLetters : List KeyTransition → List Transition → Type 0
HaveLetters groups transitions = (letter q : ℕ) → Contains transitions (transition_to letter q) → (place : ℕ) × (place < length groups) × ((transition_at groups place).letter ≡ letter)

-- a transition to each state of the set, by its class for a letter
abbrev pub transitions_by_class : List ℕ → List ℕ → List Transition
transitions_by_class classes set = map (λ q. transition_to (class_of classes q) q) set
