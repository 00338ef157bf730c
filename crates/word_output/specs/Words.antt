-- Automatic words: the letters at positions, which are tuples of numbers. A position may have no letter.
use Rattle.std.specs.Prelude.{◌≡◌, ℕ, ◌<◌, ℤ, List, length, Some, IsSome}
use Rattle.std.specs.List.{AllByRecursion}
use Rattle.digit_tuple.specs.Letters.{IsWord}
use Rattle.digit_tuple.specs.Paddings.{in_order}
use Rattle.numeration.specs.Representation.{Represents, letters_in, sizes_of}
use Rattle.num_system.specs.Sealed.{SystemValue, IsSealed}
use Rattle.num_system.specs.Tracks.{ShareDirection, systems_of, direction_of}
use Rattle.word_output.specs.LetterFunctions.{LetterFunctionValue, IsLetterFunction, letter_after}

-- the systems of the tracks, and the letters of the words that represent positions
pub record WordValue : Type 0 where
  pub systems : List SystemValue
  pub function : LetterFunctionValue

-- the word over the tracks represents the numbers
pub record RepresentsPlace (systems : List SystemValue) (ns w : List ℕ) : Type 0 where
  pub over : IsWord (letters_in (systems_of systems)) w
  pub represents : Represents (systems_of systems) (in_order (direction_of systems) w) ns

-- some representation of the numbers has this letter
abbrev pub HasLetter : WordValue → List ℕ → ℤ → Type 0
HasLetter v ns letter = (w : List ℕ) × RepresentsPlace v.systems ns w × (letter_after v.function w ≡ Some letter)

-- Each track has a sealed system, and these have one direction. A word that has a letter represents a position, and all representations of a
-- position have the same letter, or all have none.
pub record IsWordValue (v : WordValue) : Type 0 where
  pub function : IsLetterFunction v.function
  pub some : 0 < length v.systems
  pub sealed : AllByRecursion IsSealed v.systems
  pub shared_direction : ShareDirection v.systems
  pub sizes : v.function.automaton.sizes ≡ sizes_of (systems_of v.systems)
  pub represents : (w : List ℕ) → IsWord (letters_in (systems_of v.systems)) w → IsSome (letter_after v.function w) → (ns : List ℕ) × RepresentsPlace v.systems ns w
  pub one : (ns w u : List ℕ) → RepresentsPlace v.systems ns w → RepresentsPlace v.systems ns u → letter_after v.function w ≡ letter_after v.function u
