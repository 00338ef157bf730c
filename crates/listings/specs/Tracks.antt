-- Places on tracks.
use Rattle.std.specs.Prelude.{◌≡◌, ℕ, ◌<◌, ℤ, pos, List, [], ◌∷◌, length, slice_index_or, ⊤}
use Rattle.std.specs.List.{AllByRecursion, AllZip, Contains}

-- a digit for each track, each one that its track has
abbrev pub HasDigits : List (List ℤ) → List ℤ → Type 0
HasDigits sets digits = AllZip Contains sets digits

-- each letter has a digit for each track, each one that its track has
abbrev pub IsOnTracks : List (List ℤ) → List (List ℤ) → Type 0
IsOnTracks sets letters = AllByRecursion (HasDigits sets) letters

-- Each digit is at this place in the set of its track. It serves the code of `places_of`.
abbrev pub AreAt : List (List ℤ) → List ℤ → List ℕ → Type 0
AreAt [] [] [] = ⊤
AreAt [] [] (place ∷ places) = ⊥
AreAt [] (digit ∷ digits) places = ⊥
AreAt (set ∷ sets) [] places = ⊥
AreAt (set ∷ sets) (digit ∷ digits) [] = ⊥
AreAt (set ∷ sets) (digit ∷ digits) (place ∷ places) = (place < length set) × (slice_index_or set place (pos 0) ≡ digit) × AreAt sets digits places
