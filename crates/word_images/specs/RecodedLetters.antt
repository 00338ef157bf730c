-- The letters of the states of a recoded word. Nobody has to believe this: it serves the code that makes it.
use Rattle.std.specs.Prelude.{ℕ, zero, suc, ℤ, List, [], ◌∷◌, ◌++◌, Option, slice_get}
use Rattle.std.specs.Option.{option_and_then}
use Rattle.digit_tuple.specs.Deterministic.{states_of}
use Rattle.morph_words.specs.Rules.{Rules}
use Rattle.morph_words.specs.Images.{image}
use Rattle.word_output.specs.LetterFunctions.{LetterFunctionValue}
use Rattle.word_output.specs.StateLetters.{letter_of_state}

-- the letter at a position of the image of a letter, where there is one
abbrev pub recoded_letter : Rules → ℕ → Option ℤ → Option ℤ
recoded_letter rules r letter = option_and_then (λ a. slice_get (image rules a) r) letter

-- of the first so many states
abbrev pub first_recoded : Rules → ℕ → LetterFunctionValue → ℕ → List (Option ℤ)
first_recoded rules r f zero = []
first_recoded rules r f (suc q) = first_recoded rules r f q ++ recoded_letter rules r (letter_of_state f q) ∷ []

-- of all states
abbrev pub recoded_letters : Rules → ℕ → LetterFunctionValue → List (Option ℤ)
recoded_letters rules r f = first_recoded rules r f (states_of f.automaton)
