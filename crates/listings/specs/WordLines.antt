-- The text of a word of letters, and its line.
use Rattle.std.specs.Prelude.{ℕ, ℤ, List, [], ◌∷◌, ◌++◌, map, codes}
use Rattle.std.specs.Fmt.{signed_decimal}
use Rattle.std.specs.List.{flat_map, join_by}
use Rattle.dfa_text.specs.RelationText.{tuple_of}

-- a letter: its digits in brackets, with a comma between two of them
abbrev pub letter_text : List ℤ → List ℕ
letter_text digits = codes "[" ++ (join_by signed_decimal (codes ",") digits ++ codes "]")

-- a word: its letters, one after another, or empty brackets where there is none
abbrev pub word_text : List (List ℤ) → List ℕ
word_text [] = codes "[]"
word_text (letter ∷ letters) = flat_map letter_text (letter ∷ letters)

-- the letters of a word over tracks whose digits are these sets
abbrev pub tuples_in : List (List ℤ) → List ℕ → List (List ℤ)
tuples_in sets word = map (tuple_of sets) word

-- the text of the word, and the line's end
abbrev pub word_line : List (List ℤ) → List ℕ → List ℕ
word_line sets word = word_text (tuples_in sets word) ++ codes "\n"

-- the lines of words, one after another
abbrev pub word_lines : List (List ℤ) → List (List ℕ) → List ℕ
word_lines sets words = flat_map (word_line sets) words
