-- The first places of the numbers of a list.
use Rattle.std.specs.Prelude.{◌≡◌, ◌≢◌, ℕ, ◌<◌, ◌≤◌, List, length, slice_index_or}
use Rattle.residual_classes.specs.Classes.{class_of}

-- the number at a place
abbrev pub number_at : List ℕ → ℕ → ℕ
number_at numbers place = slice_index_or numbers place 0

-- a place p is the first that has the number of the place q
pub record IsFirstPlace (numbers : List ℕ) (q p : ℕ) : Type 0 where
  pub up_to : p ≤ q
  pub same : number_at numbers p ≡ number_at numbers q
  pub none_before : (k : ℕ) → k < p → number_at numbers k ≢ number_at numbers q

-- a list has for each place of another the first place with the same number
pub record AreFirstPlaces (numbers places : List ℕ) : Type 0 where
  pub width : length places ≡ length numbers
  pub first : (q : ℕ) → q < length numbers → IsFirstPlace numbers q (class_of places q)
