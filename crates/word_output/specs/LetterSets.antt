-- The words whose letter compares with a given one.
use Rattle.std.specs.Prelude.{◌≡◌, ◌≢◌, ◌↔◌, ℕ, ℤ, ◌<ℤ◌, ◌≤ℤ◌, List, Some, IsTrue}
use Rattle.digit_tuple.specs.Deterministic.{Automaton, accepts_of, letters_of}
use Rattle.digit_tuple.specs.Letters.{IsWord}
use Rattle.residual_classes.specs.Classes.{class_of}
use Rattle.minimise.specs.Canonical.{IsCanonical}
use Rattle.num_system.specs.declared.comparison.Comparison.{Comparison}
use Rattle.num_system.specs.declared.comparison.Comparison.TheVariants.{Equal, Unequal, Less, Greater, AtMost, AtLeast}
use Rattle.word_output.specs.LetterFunctions.{LetterFunctionValue, letter_after, letter_in}

-- what a comparison says of two letters
abbrev pub ComparesLetters : Comparison → ℤ → ℤ → Type 0
ComparesLetters Equal b c = b ≡ c
ComparesLetters Unequal b c = b ≢ c
ComparesLetters Less b c = b <ℤ c
ComparesLetters Greater b c = c <ℤ b
ComparesLetters AtMost b c = b ≤ℤ c
ComparesLetters AtLeast b c = c ≤ℤ b

-- the state has a letter which compares so with the given one
abbrev pub HasComparedLetter : Comparison → ℤ → LetterFunctionValue → ℕ → Type 0
HasComparedLetter comparison letter f q = (b : ℤ) × (letter_in f.letters (class_of f.classes q) ≡ Some b) × ComparesLetters comparison b letter

-- the canonical automaton of the words that have a letter which compares so with the given one
pub record IsLetterSet (comparison : Comparison) (letter : ℤ) (f : LetterFunctionValue) (d : Automaton) : Type 0 where
  pub sizes : d.sizes ≡ f.automaton.sizes
  pub canonical : IsCanonical d
  pub language : (w : List ℕ) → IsWord (letters_of f.automaton) w → IsTrue (accepts_of d w) ↔ ((b : ℤ) × (letter_after f w ≡ Some b) × ComparesLetters comparison b letter)
