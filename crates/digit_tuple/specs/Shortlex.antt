-- Words in shortlex order: shorter ones first, and of those as long the one whose first letter that differs is smaller.
use Rattle.std.specs.Prelude.{◌≡◌, ℕ, ◌<◌, List, [], ◌∷◌, length, ◌⊎◌}
use Rattle.std.specs.List.{AllPairs}

-- the first letter that differs is smaller in w
abbrev pub IsLetterwiseBefore : List ℕ → List ℕ → Type 0
IsLetterwiseBefore [] v = ⊥
IsLetterwiseBefore (a ∷ w) [] = ⊥
IsLetterwiseBefore (a ∷ w) (b ∷ v) = (a < b) ⊎ ((a ≡ b) × IsLetterwiseBefore w v)

-- the word w is before the word v
abbrev pub IsBefore : List ℕ → List ℕ → Type 0
IsBefore w v = (length w < length v) ⊎ ((length w ≡ length v) × IsLetterwiseBefore w v)

-- each word is before all later ones
abbrev pub AreInOrder : List (List ℕ) → Type 0
AreInOrder words = AllPairs IsBefore words
