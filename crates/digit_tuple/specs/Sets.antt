-- Sets of numbers, kept ascending, one for each track.
use Rattle.std.specs.Prelude.{ℕ, ℤ, pos, ◌<ℤ◌, ◌<◌, ◌^◌, List, [], ◌∷◌, length, map, slice_index_or}
use Rattle.std.specs.List.{AllPairs}

-- each number is below each later one
abbrev pub IsAscending : List ℤ → Type 0
IsAscending numbers = AllPairs (λ x y. x <ℤ y) numbers

-- the members of a set, in ascending order, as many as a 32-bit number can count
pub record IsLetterSet (members : List ℤ) : Type 0 where
  pub ascending : IsAscending members
  pub small : length members < 2 ^ 32

-- how many members each set has
abbrev pub sizes_of : List (List ℤ) → List ℕ
sizes_of sets = map length sets

-- the members at these places, one of each set
abbrev pub members_at : List (List ℤ) → List ℕ → List ℤ
members_at [] places = []
members_at (set ∷ sets) [] = []
members_at (set ∷ sets) (place ∷ places) = slice_index_or set place (pos 0) ∷ members_at sets places
