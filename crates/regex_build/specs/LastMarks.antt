-- The last marks of an expression: at which of its letters the words that it begins with end.
use Rattle.std.specs.Prelude.{◌≡◌, ◌↔◌, ℕ, List, [], ◌∷◌, ◌++◌}
use Rattle.std.specs.List.{AllZip}
use Rattle.regex_build.specs.Expression.{Expression, occurrences_in, placed}
use Rattle.regex_build.specs.Matches.{Matches}
use Rattle.regex_build.specs.Positions.{IsWritten}

-- a prefix of some match, each letter marked with its place, is the word without its marks, and the last letter of the prefix has this place
pub record IsLastMark {L : Type 0} (code : L → ℕ → Type 0) (e : Expression L) (word : List ℕ) (place : ℕ) : Type 0 where
  pub before : List ℕ
  pub after : List ℕ
  pub matches : Matches (placed 1 e) (before ++ place ∷ after)
  pub written : AllZip (IsWritten code (occurrences_in e)) (before ++ place ∷ []) word

-- the words have the same last marks; the empty word is alike to itself alone
pub record SameLastMarks {L : Type 0} (code : L → ℕ → Type 0) (e : Expression L) (w v : List ℕ) : Type 0 where
  pub nothing : (w ≡ []) ↔ (v ≡ [])
  pub marks : (place : ℕ) → IsLastMark code e w place ↔ IsLastMark code e v place
