-- The grammar of places: which place derives which lexemes.
use Rattle.std.specs.Prelude.{◌≡◌, ◌≢◌, List, [], ◌∷◌, ◌++◌, ℤ}
use Rattle.std.specs.List.{AllByRecursion, flat_map, join_by}
use Rattle.place_text.specs.declared.lexeme.Lexeme.{Lexeme}
use Rattle.place_text.specs.declared.lexeme.Lexeme.TheVariants.{Open, Close, Comma, Number}

-- a letter: its digits in brackets, with a comma between two of them
abbrev pub letter_lexemes : List ℤ → List Lexeme
letter_lexemes digits = Open ∷ (join_by (λ digit. Number digit ∷ []) (Comma ∷ []) digits ++ Close ∷ [])

-- a place: its letters, one after another, or empty brackets where there is none
abbrev pub place_lexemes : List (List ℤ) → List Lexeme
place_lexemes [] = Open ∷ Close ∷ []
place_lexemes (letter ∷ letters) = flat_map letter_lexemes (letter ∷ letters)

-- the lexemes are those of the place, each letter of which has a digit
pub record Derives (ts : List Lexeme) (letters : List (List ℤ)) : Type 0 where
  pub some : AllByRecursion (λ letter. letter ≢ []) letters
  pub derives : place_lexemes letters ≡ ts
