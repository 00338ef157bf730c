-- The step that gives each word the letter of the reversed word.
use Rattle.std.specs.Prelude.{◌≡◌, ℕ, List, ◌++◌, reverse}
use Rattle.digit_tuple.specs.Deterministic.{letters_of}
use Rattle.digit_tuple.specs.Letters.{IsWord}
use Rattle.digit_tuple.specs.declared.kind.Kind.TheVariants as kinds
use Rattle.automaton_steps.specs.Makings.{Making}
use Rattle.word_output.specs.LetterFunctions.{LetterFunctionValue, IsLetterFunction, letter_after}

-- with what follows one of the two words, it has reversed the letter that the other has with it
abbrev pub ReversedLettersAlike : LetterFunctionValue → List ℕ → List ℕ → Type 0
ReversedLettersAlike f w v = (u : List ℕ) → IsWord (letters_of f.automaton) u → letter_after f (reverse (w ++ u)) ≡ letter_after f (reverse (v ++ u))

-- each word has the letter that the other function gives to the reversed word
pub record IsLetterReversal (f reversed : LetterFunctionValue) : Type 0 where
  pub sizes : reversed.automaton.sizes ≡ f.automaton.sizes
  pub function : IsLetterFunction reversed
  pub letters : (w : List ℕ) → IsWord (letters_of f.automaton) w → letter_after reversed w ≡ letter_after f (reverse w)

-- the step
abbrev pub letter_reversal_step : LetterFunctionValue → Making LetterFunctionValue
letter_reversal_step f = record {
  step = record { kind = kinds.Reverse; sizes = f.automaton.sizes; alike = ReversedLettersAlike f };
  automaton_of = λ reversed. reversed.automaton;
  IsMade = IsLetterReversal f;
}
