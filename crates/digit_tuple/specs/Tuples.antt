-- Tuples of members of sets, and their letters.
use Rattle.std.specs.Prelude.{◌≡◌, ℕ, ◌<◌, ℤ, List}
use Rattle.std.specs.List.{All, AllZip}
use Rattle.digit_tuple.specs.Letters.{product, code_of, AreDigits}
use Rattle.digit_tuple.specs.Sets.{IsAscending, sizes_of, members_at}

-- the letter denotes the tuple: it is the code of the indices of the tuple's members in the sets
pub record IsLetterOf (sets : List (List ℤ)) (tuple : List ℤ) (letter : ℕ) : Type 0 where
  pub digits : List ℕ
  pub fit : AreDigits (sizes_of sets) digits
  pub tuple_is : tuple ≡ members_at sets digits
  pub letter_is : letter ≡ code_of (sizes_of sets) digits

-- the word of letters denotes the word of tuples, letter by letter
abbrev pub Codes : List (List ℤ) → List (List ℤ) → List ℕ → Type 0
Codes sets tuples letters = AllZip (IsLetterOf sets) tuples letters

-- a tuple has at most one letter
abbrev pub TuplesDetermineLetters : Type 0
TuplesDetermineLetters = (sets : List (List ℤ)) (tuple : List ℤ) (a b : ℕ) → All IsAscending sets → IsLetterOf sets tuple a → IsLetterOf sets tuple b → a ≡ b

-- a letter denotes at most one tuple
abbrev pub LettersDetermineTuples : Type 0
LettersDetermineTuples = (sets : List (List ℤ)) (t u : List ℤ) (letter : ℕ) → IsLetterOf sets t letter → IsLetterOf sets u letter → t ≡ u

-- each letter of the alphabet denotes a tuple
abbrev pub LettersHaveTuples : Type 0
LettersHaveTuples = (sets : List (List ℤ)) (letter : ℕ) → letter < product (sizes_of sets) → (tuple : List ℤ) × IsLetterOf sets tuple letter
