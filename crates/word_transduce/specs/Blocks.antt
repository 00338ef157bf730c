-- Blocks of letters: the letters after a word, in the order of the positions that the digits after it represent.
use Rattle.std.specs.Prelude.{ℕ, zero, suc, ◌/◌, ◌%◌, ◌^◌, ℤ, List, [], ◌∷◌, ◌++◌, reverse, Option}
use Rattle.digit_tuple.specs.Deterministic.{letters_of}
use Rattle.base_k.specs.Positional.{value}
use Rattle.word_output.specs.LetterFunctions.{LetterFunctionValue, letter_after}

-- the number by so many digits in base k, the most significant digit first
abbrev pub numeral : ℕ → ℕ → ℕ → List ℕ
numeral k zero n = []
numeral k (suc digits) n = n / k ^ digits ∷ numeral k digits (n % k ^ digits)

-- how many digits there are
abbrev pub base_of : LetterFunctionValue → ℕ
base_of f = letters_of f.automaton

-- the letters after a word by so many digits more
abbrev pub block : LetterFunctionValue → ℕ → List ℕ → ℕ → Option ℤ
block f digits u place = letter_after f (u ++ numeral (base_of f) digits place)

-- the number that a word represents whose least significant digit comes first
abbrev pub place_of : ℕ → List ℕ → ℕ
place_of k w = value k (reverse w)
