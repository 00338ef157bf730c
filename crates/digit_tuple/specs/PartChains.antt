-- Chains of letters, each with the next one of its part.
use Rattle.std.specs.Prelude.{◌≡◌, ℕ, ◌<◌, ◌≤◌, List, [], ◌∷◌, length, slice_index}
use Rattle.digit_tuple.specs.PartIndex.{letters_from}

-- the letters of the chain that begins with this one; past the letters it is empty
abbrev pub IsChain : List ℕ → ℕ → List ℕ → Type 0
IsChain next at [] = length next ≤ at
IsChain next at (letter ∷ letters) = (at < length next) × (letter ≡ at) × (at < slice_index next at) × IsChain next (slice_index next at) letters

-- each part has a chain of its letters from one on
pub record AreChains (parts : List ℕ) (count : ℕ) (first next : List ℕ) (from : ℕ) : Type 0 where
  pub count_is : length first ≡ count
  pub long : length next ≡ length parts
  pub beyond : (part : ℕ) → part < count → from ≤ slice_index first part
  pub chains : (part : ℕ) → part < count → IsChain next (slice_index first part) (letters_from parts part from)
