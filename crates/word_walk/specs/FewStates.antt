-- Few of the states of an automaton, as a list.
use Rattle.std.specs.Prelude.{◌==◌, ℕ, ◌<◌, Bool, List, map}
use Rattle.std.specs.List.{All, list_any, range_with_len}
use Rattle.std.specs.List.Sorted.{IsStrictlyIncreasing}

-- the state is in the list
abbrev pub has_state : List ℕ → ℕ → Bool
has_state states q = list_any (λ p. p == q) states

-- for each of so many states whether it is in the list
abbrev pub flags_of : ℕ → List ℕ → List Bool
flags_of count states = map (has_state states) (range_with_len 0 count)

-- of so many states some, in order, each once
pub record AreStates (count : ℕ) (states : List ℕ) : Type 0 where
  pub ascending : IsStrictlyIncreasing states
  pub within : All (λ q. q < count) states
