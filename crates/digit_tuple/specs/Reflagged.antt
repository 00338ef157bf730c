-- The same transitions with other accepting states.
use Rattle.std.specs.Prelude.{◌≡◌, ℕ, ◌<◌, Bool, false, List, length, slice_index_or}
use Rattle.digit_tuple.specs.Deterministic.{Automaton, State, no_state}

-- the states have the same transitions, and accept as the flags say
pub record AreReflagged (flags : List Bool) (old new : List State) : Type 0 where
  pub count : length new ≡ length old
  pub transitions : (q : ℕ) → (slice_index_or new q no_state).transitions ≡ (slice_index_or old q no_state).transitions
  pub accepting : (q : ℕ) → q < length old → (slice_index_or new q no_state).accepting ≡ slice_index_or flags q false

-- the automaton has the tracks and the transitions of the other, and the states accept as the flags say
pub record IsReflagged (flags : List Bool) (old new : Automaton) : Type 0 where
  pub sizes : new.sizes ≡ old.sizes
  pub states : AreReflagged flags old.states new.states
