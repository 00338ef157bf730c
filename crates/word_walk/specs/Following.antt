-- The words of a list in shortlex order that come after a place.
use Rattle.std.specs.Prelude.{◌≡◌, ℕ, suc, ◌≤◌, Bool, List, [], ◌∷◌, length, Option, None, Some, ◌⊎◌, IsTrue, ⊤}
use Rattle.std.specs.List.{All, Contains}
use Rattle.digit_tuple.specs.Shortlex.{IsBefore, AreInOrder}

-- the word comes after the place; all words do where there is no place
abbrev pub IsAfter : Option (List ℕ) → List ℕ → Type 0
IsAfter None w = ⊤
IsAfter (Some place) w = IsBefore place w

-- the first word of the list after the place
pub record IsNext (lists : List ℕ → Bool) (place : Option (List ℕ)) (w : List ℕ) : Type 0 where
  pub listed : IsTrue (lists w)
  pub after : IsAfter place w
  pub least : (v : List ℕ) → IsTrue (lists v) → IsAfter place v → (w ≡ v) ⊎ IsBefore w v

-- there is no word of the list after the place
abbrev pub IsLast : (List ℕ → Bool) → Option (List ℕ) → Type 0
IsLast lists place = (v : List ℕ) → IsTrue (lists v) → ¬ IsAfter place v

-- the first so many words of the list after the place, or all if there are fewer
pub record AreNext (lists : List ℕ → Bool) (place : Option (List ℕ)) (count : ℕ) (words : List (List ℕ)) : Type 0 where
  pub in_order : AreInOrder words
  pub listed : All (λ w. IsTrue (lists w)) words
  pub after : All (IsAfter place) words
  pub few : length words ≤ count
  pub whole : (v : List ℕ) → IsTrue (lists v) → IsAfter place v → Contains words v ⊎ ((length words ≡ count) × All (λ w. IsBefore w v) words)

-- none are the first 0, nor are any after the last; else the first one, and then the first ones after it
abbrev pub WalksCompose : Type 0
WalksCompose = (lists : List ℕ → Bool) (place : Option (List ℕ))
    → AreNext lists place 0 []
    × ((count : ℕ) → IsLast lists place → AreNext lists place count [])
    × ((count : ℕ) (w : List ℕ) (words : List (List ℕ)) → IsNext lists place w → AreNext lists (Some w) count words → AreNext lists place (suc count) (w ∷ words))

-- the first words after a place are the only such words
abbrev pub NextWordsAreOne : Type 0
NextWordsAreOne = (lists : List ℕ → Bool) (place : Option (List ℕ)) (count : ℕ) (words others : List (List ℕ)) → AreNext lists place count words → AreNext lists place count others → words ≡ others
