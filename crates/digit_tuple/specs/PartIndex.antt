-- The parts of letters, and the letters of each part.
use Rattle.std.specs.Prelude.{◌≡◌, ◌==◌, ℕ, ◌+◌, ◌-◌, ◌<◌, ◌≤◌, List, length, filter, slice_index, slice_range}
use Rattle.std.specs.List.{All, range_with_len}

-- the letters from one on that have the part, in order
abbrev pub letters_from : List ℕ → ℕ → ℕ → List ℕ
letters_from parts part from = filter (λ a. slice_index parts a == part) (range_with_len from (length parts - from))

-- the letters that have the part, in order
abbrev pub letters_with : List ℕ → ℕ → List ℕ
letters_with parts part = letters_from parts part 0

-- the letters that have the part are in the list from its start on, up to the start of the next part
pub record IsBlock (parts letters starts : List ℕ) (part : ℕ) : Type 0 where
  pub begins : slice_index starts part ≤ slice_index starts (part + 1)
  pub ends : slice_index starts (part + 1) ≤ length letters
  pub letters_are : slice_range letters (slice_index starts part) (slice_index starts (part + 1)) ≡ letters_with parts part

-- the letters are by their parts, and each part that some letter has begins and ends
pub record AreByPart (parts letters starts : List ℕ) : Type 0 where
  pub within : All (λ part. part + 1 < length starts) parts
  pub blocks : (part : ℕ) → part + 1 < length starts → IsBlock parts letters starts part
