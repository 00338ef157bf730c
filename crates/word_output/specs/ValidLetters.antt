-- The step that keeps the letters of the words whose tracks are each in the language of a system.
use Rattle.std.specs.Prelude.{◌≡◌, ℕ, ℤ, List, drop, map, slice_index, Option, None, if◌then◌else◌}
use Rattle.digit_tuple.specs.Deterministic.{Automaton, letters_of}
use Rattle.digit_tuple.specs.Letters.{IsWord}
use Rattle.digit_tuple.specs.declared.kind.Kind.TheVariants as kinds
use Rattle.product_op.specs.Readings.{Reading, all_true, flags_at}
use Rattle.product_op.specs.Validity.{is_valid, TracksAlike}
use Rattle.automaton_steps.specs.Makings.{Making}
use Rattle.word_output.specs.LetterFunctions.{LetterFunctionValue, IsLetterFunction, letter_after, SameLettersAfter}
use Rattle.word_output.specs.StateLetters.{letter_of_state}

-- the same letters follow both words, and each track's language has one residual after both
pub record ValidLettersAlike (f : LetterFunctionValue) (languages : List Automaton) (w v : List ℕ) : Type 0 where
  pub letters : SameLettersAfter f w v
  pub tracks : TracksAlike f.automaton.sizes languages w v

-- valid words have the letters that the other function gives them, and other words have none
pub record AreValidLetters (languages : List Automaton) (f valid : LetterFunctionValue) : Type 0 where
  pub sizes : valid.automaton.sizes ≡ f.automaton.sizes
  pub function : IsLetterFunction valid
  pub letters : (w : List ℕ) → IsWord (letters_of f.automaton) w → letter_after valid w ≡ (if is_valid f.automaton.sizes languages w then letter_after f w else None)

-- the step
abbrev pub valid_letters_step : List Automaton → LetterFunctionValue → Making LetterFunctionValue
valid_letters_step languages f = record {
  step = record { kind = kinds.Valid; sizes = f.automaton.sizes; alike = ValidLettersAlike f languages };
  automaton_of = λ valid. valid.automaton;
  IsMade = AreValidLetters languages f;
}

-- The letter of the first state of a tuple, where the languages accept at the others. Nobody has to believe this: it serves the code.
abbrev pub valid_letter : LetterFunctionValue → List Reading → List ℕ → Option ℤ
valid_letter f readings key = if all_true (drop 1 (flags_at readings key)) then letter_of_state f (slice_index key 0) else None

abbrev pub tuple_letters : LetterFunctionValue → List Reading → List (List ℕ) → List (Option ℤ)
tuple_letters f readings keys = map (valid_letter f readings) keys
