-- The step that gives each word the letter of the word without the zeros at the end of its most significant letters.
use Rattle.std.specs.Prelude.{◌≡◌, ◌↔◌, ℕ, List}
use Rattle.digit_tuple.specs.Deterministic.{letters_of}
use Rattle.digit_tuple.specs.Letters.{IsWord}
use Rattle.digit_tuple.specs.Paddings.{strip, without_zeros}
use Rattle.digit_tuple.specs.declared.direction.Direction.{Direction}
use Rattle.digit_tuple.specs.declared.direction.Direction.TheVariants.{Msd, Lsd}
use Rattle.digit_tuple.specs.declared.kind.Kind.TheVariants as kinds
use Rattle.pad_rename.specs.Padding.{AreZeros}
use Rattle.automaton_steps.specs.Makings.{Making}
use Rattle.word_output.specs.LetterFunctions.{LetterFunctionValue, IsLetterFunction, letter_after, SameLettersAfter}

-- both or neither of the words are all zeros, and what follows the one without its leading zeros has the letter that it has after the
-- other without its own
pub record MsdLettersAlike (f : LetterFunctionValue) (w v : List ℕ) : Type 0 where
  pub zeros : AreZeros w ↔ AreZeros v
  pub stripped : SameLettersAfter f (without_zeros w) (without_zeros v)

-- the same letters follow both words, and both words without their trailing zeros
pub record LsdLettersAlike (f : LetterFunctionValue) (w v : List ℕ) : Type 0 where
  pub stripped : SameLettersAfter f (strip Lsd w) (strip Lsd v)
  pub whole : SameLettersAfter f w v

-- the words are alike to the step
abbrev pub PaddedLettersAlike : Direction → LetterFunctionValue → List ℕ → List ℕ → Type 0
PaddedLettersAlike Msd f w v = MsdLettersAlike f w v
PaddedLettersAlike Lsd f w v = LsdLettersAlike f w v

-- each word has the letter that the other function gives it without those zeros
pub record IsLetterPadding (direction : Direction) (f padded : LetterFunctionValue) : Type 0 where
  pub sizes : padded.automaton.sizes ≡ f.automaton.sizes
  pub function : IsLetterFunction padded
  pub letters : (w : List ℕ) → IsWord (letters_of f.automaton) w → letter_after padded w ≡ letter_after f (strip direction w)

-- the step
abbrev pub letter_pad_step : Direction → LetterFunctionValue → Making LetterFunctionValue
letter_pad_step direction f = record {
  step = record { kind = kinds.Pad; sizes = f.automaton.sizes; alike = PaddedLettersAlike direction f };
  automaton_of = λ padded. padded.automaton;
  IsMade = IsLetterPadding direction f;
}
