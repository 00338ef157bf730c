-- States in an order, and where each is in it.
use Rattle.std.specs.Prelude.{◌≡◌, ℕ, ◌<◌, ◌≤◌, ◌⊎◌, List, length, slice_index}
use Rattle.std.specs.List.{Contains}

-- states are at places as the list says, and the other list says at which place each of them is
pub record AreInverse (states places : List ℕ) : Type 0 where
  pub width : length places ≡ length states
  pub states_within : (place : ℕ) → place < length states → slice_index states place < length states
  pub places_within : (q : ℕ) → q < length states → slice_index places q < length states
  pub placed : (place : ℕ) → place < length states → slice_index places (slice_index states place) ≡ place
  pub state_back : (q : ℕ) → q < length states → slice_index states (slice_index places q) ≡ q

-- of the states from the start to the end those of the set are from the middle on, and the others before them; all other states are where
-- they were
pub record AreAtEnd (old new set : List ℕ) (start middle end : ℕ) : Type 0 where
  pub width : length new ≡ length old
  pub after_start : start ≤ middle
  pub before_end : middle ≤ end
  pub elsewhere : (place : ℕ) → (place < start) ⊎ (end ≤ place) → slice_index new place ≡ slice_index old place
  pub inside : (place : ℕ) → start ≤ place → place < end → (was : ℕ) × (start ≤ was) × (was < end) × (slice_index new place ≡ slice_index old was)
  pub moved : (place : ℕ) → middle ≤ place → place < end → Contains set (slice_index new place)
  pub left : (place : ℕ) → start ≤ place → place < middle → ¬ Contains set (slice_index new place)
