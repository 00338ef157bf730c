-- States that read parts of letters.
use Rattle.std.specs.Prelude.{◌≡◌, ℕ, ◌<◌, List, length, slice_index_or}
use Rattle.std.specs.List.{All, AllPairs}
use Rattle.digit_tuple.specs.Deterministic.{Automaton, State, IsByEarlier, target_by, accepting_of, transitions_of}
use Rattle.digit_tuple.specs.declared.transitions.Transition.{Transition}

-- the transitions are by letters, in order, and each letter leads where its part leads by the row
pub record AreTransitionsByParts (parts : List ℕ) (row transitions : List Transition) : Type 0 where
  pub in_range : All (λ transition. transition.letter < length parts) transitions
  pub ascending : AllPairs IsByEarlier transitions
  pub lead : (letter : ℕ) → letter < length parts → target_by transitions letter ≡ target_by row (slice_index_or parts letter 0)

-- the state accepts as the automaton's does, and each letter leads where its part leads from that
pub record IsReading (d : Automaton) (q : ℕ) (parts : List ℕ) (state : State) : Type 0 where
  pub accepting_is : state.accepting ≡ accepting_of d q
  pub transitions_are : AreTransitionsByParts parts (transitions_of d q) state.transitions

-- there are so many states, which read parts of letters as the automaton's do
pub record AreReading (d : Automaton) (parts : List ℕ) (count : ℕ) (states : List State) : Type 0 where
  pub count_is : length states ≡ count
  pub are : (q : ℕ) (z : State) → q < count → IsReading d q parts (slice_index_or states q z)
