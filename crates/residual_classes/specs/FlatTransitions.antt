-- The transitions of an automaton in one flat table.
use Rattle.std.specs.Prelude.{◌≡◌, ℕ, ◌+◌, ◌<◌, ◌≤◌, ◌^◌, List, Option, length, slice_index, slice_index_or}
use Rattle.std.specs.Option.{IfSome}
use Rattle.digit_tuple.specs.declared.transitions.Transition.{Transition}
use Rattle.digit_tuple.specs.Deterministic.{Automaton, transitions_of, states_of}
use Rattle.residual_classes.specs.TransitionLetters.{letter_at, listed}
use Rattle.residual_classes.specs.declared.flat_transitions.FlatTransitions.{FlatTransitions}

-- the transition at a place of the table, where the transitions of its state begin at a start
abbrev pub flat_transition : Option (List ℕ) → List ℕ → ℕ → ℕ → Transition
flat_transition letters targets start place = record { letter = letter_at letters start place; target = slice_index targets place }

-- the transitions of the first states are fewer than 2^32, and are one after the other, those of a state from its start to the next
pub record AreLaidOut (d : Automaton) (starts : List ℕ) (letters : Option (List ℕ)) (targets : List ℕ) (count : ℕ) : Type 0 where
  pub width : length starts ≡ count + 1
  pub begin : slice_index starts 0 ≡ 0
  pub end : slice_index starts count ≡ length targets
  pub same : IfSome letters (λ list. length list ≡ length targets)
  pub few : length targets < 2 ^ 32
  pub ends : (q : ℕ) → q < count → slice_index starts (q + 1) ≡ slice_index starts q + length (transitions_of d q)
  pub within : (q : ℕ) → q ≤ count → slice_index starts q ≤ length targets
  pub transitions : (q k : ℕ) (z : Transition) → q < count → k < length (transitions_of d q) → slice_index_or (transitions_of d q) k z ≡ flat_transition letters targets (slice_index starts q) (slice_index starts q + k)

-- the table has the transitions of all states
abbrev pub AreFlat : Automaton → FlatTransitions → Type 0
AreFlat d flat = AreLaidOut d flat.starts.items (listed flat.letters) flat.targets.items (states_of d)
