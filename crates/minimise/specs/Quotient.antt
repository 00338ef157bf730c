-- The automaton whose states are classes.
use Rattle.std.specs.Prelude.{◌≡◌, ◌==◌, ℕ, ◌+◌, ◌<◌, ◌≤◌, Bool, not, List, [], ◌∷◌, length, Option}
use Rattle.std.specs.Option.{option_map}
use Rattle.digit_tuple.specs.Deterministic.{Automaton, IsTable, letters_of, states_of}
use Rattle.digit_tuple.specs.declared.transitions.Transition.{Transition}
use Rattle.digit_tuple.specs.Keys.{KeyTransition}
use Rattle.residual_classes.specs.Leaders.{AreLeaders}
use Rattle.residual_classes.specs.Classes.{class_of, next_of, live_class}
use Rattle.residual_classes.specs.CoarseClasses.{AreResiduals}

-- the classes are residuals, and each has a state
pub record IsQuotient (d : Automaton) (outputs classes leaders : List ℕ) : Type 0 where
  pub table : IsTable (letters_of d) d.states
  pub outputs_are : length outputs ≡ states_of d
  pub width : length classes ≡ states_of d + 1
  pub below : (q : ℕ) → q ≤ states_of d → class_of classes q ≤ states_of d
  pub residuals : AreResiduals d outputs classes
  pub leaders_are : AreLeaders classes leaders (states_of d)

-- the state of the class that is the key
abbrev pub leader_of : List ℕ → List ℕ → ℕ
leader_of leaders key = class_of leaders (class_of key 0)

-- the key is the class of a state
pub record IsClass (d : Automaton) (classes leaders key : List ℕ) : Type 0 where
  pub one : length key ≡ 1
  pub in_range : class_of key 0 ≤ states_of d
  pub leader : leader_of leaders key < states_of d
  pub itself : class_of classes (leader_of leaders key) ≡ class_of key 0

-- the class of where a letter leads, unless it is the sink's
abbrev pub next_class : Automaton → List ℕ → List ℕ → List ℕ → ℕ → Option (List ℕ)
next_class d classes leaders key a = option_map (λ class. class ∷ []) (live_class d classes (next_of d (leader_of leaders key) a))

-- the output of the states of the class
abbrev pub key_output : List ℕ → List ℕ → List ℕ → ℕ
key_output outputs leaders key = class_of outputs (leader_of leaders key)

-- whether it is one
abbrev pub class_accepts : List ℕ → List ℕ → List ℕ → Bool
class_accepts outputs leaders key = not (key_output outputs leaders key == 0)

-- the key transition of a transition to a class
abbrev pub key_transition : Transition → KeyTransition
key_transition transition = record { letter = transition.letter; key = transition.target ∷ [] }
