-- The letters of the states of an automaton.
use Rattle.std.specs.Prelude.{◌↔◌, ℕ, ℤ, List, Option, None, Some, map, slice_index, slice_index_or}
use Rattle.std.specs.List.{Contains}
use Rattle.std.specs.Option.{option_and_then}
use Rattle.digit_tuple.specs.Deterministic.{Automaton, run_of}
use Rattle.digit_tuple.specs.Sets.{IsAscending}
use Rattle.residual_classes.specs.Classes.{class_of}
use Rattle.word_output.specs.LetterFunctions.{LetterFunctionValue, letter_in}

-- the letter of a state, if it has one
abbrev pub letter_at : List (Option ℤ) → ℕ → Option ℤ
letter_at letters q = slice_index_or letters q None

-- the letter of the state that the word leads to
abbrev pub letter_led : Automaton → List (Option ℤ) → List ℕ → Option ℤ
letter_led d letters w = option_and_then (λ q. letter_at letters q) (run_of d 0 w)

-- the letters that some state has, in ascending order
pub record AreLettersOf (letters : List (Option ℤ)) (found : List ℤ) : Type 0 where
  pub ascending : IsAscending found
  pub members : (b : ℤ) → Contains found b ↔ Contains letters (Some b)

-- the letter of a state of the function
abbrev pub letter_of_state : LetterFunctionValue → ℕ → Option ℤ
letter_of_state f q = letter_in f.letters (class_of f.classes q)

-- the letter of the first state of each key, and of state 0 where the key has none
abbrev pub head_letters : LetterFunctionValue → List (List ℕ) → List (Option ℤ)
head_letters f keys = map (λ key. letter_of_state f (slice_index key 0)) keys
