-- The letters of pairs of states. Nobody has to believe this: it serves the step of a pair.
use Rattle.std.specs.Prelude.{◌≡◌, ℕ, ℤ, List, Option, Some, slice_index}
use Rattle.num_system.specs.declared.comparison.Comparison.{Comparison}
use Rattle.word_output.specs.LetterFunctions.{LetterFunctionValue, SameLettersAfter}
use Rattle.word_output.specs.LetterSets.{ComparesLetters}
use Rattle.word_output.specs.StateLetters.{letter_of_state}

-- both letters are there, and compare so
abbrev pub BothCompare : Comparison → Option ℤ → Option ℤ → Type 0
BothCompare comparison o p = (x : ℤ) × (y : ℤ) × (o ≡ Some x) × (p ≡ Some y) × ComparesLetters comparison x y

-- the letters of the two states of a key do
abbrev pub KeyCompares : Comparison → LetterFunctionValue → LetterFunctionValue → List ℕ → Type 0
KeyCompares comparison f g key = BothCompare comparison (letter_of_state f (slice_index key 0)) (letter_of_state g (slice_index key 1))

-- the same letters of both functions follow both words
pub record BothAlike (f g : LetterFunctionValue) (w v : List ℕ) : Type 0 where
  pub first : SameLettersAfter f w v
  pub second : SameLettersAfter g w v
