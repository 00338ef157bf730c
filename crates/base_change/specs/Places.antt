-- Letters at positions, which are the positional values of words.
use Rattle.std.specs.Prelude.{◌≡◌, ◌↔◌, ℕ, ℤ, List, Some}
use Rattle.digit_tuple.specs.Letters.{IsWord}
use Rattle.digit_tuple.specs.Paddings.{in_order}
use Rattle.digit_tuple.specs.declared.direction.Direction.{Direction}
use Rattle.base_k.specs.Positional.{value}
use Rattle.word_output.specs.LetterFunctions.{LetterFunctionValue, letter_after}

-- the word over base k, with the digit first that the direction says, has the position as its value
abbrev pub IsPlace : Direction → ℕ → ℕ → List ℕ → Type 0
IsPlace direction k n w = IsWord k w × (value k (in_order direction w) ≡ n)

-- some word that has the position as its value has the letter
abbrev pub HasLetterAt : Direction → ℕ → LetterFunctionValue → ℕ → ℤ → Type 0
HasLetterAt direction k f n letter = (w : List ℕ) × IsPlace direction k n w × (letter_after f w ≡ Some letter)

-- words that have one value have one letter, or none
abbrev pub HasLettersOfPlaces : Direction → ℕ → LetterFunctionValue → Type 0
HasLettersOfPlaces direction k f = (n : ℕ) (w v : List ℕ) → IsPlace direction k n w → IsPlace direction k n v → letter_after f w ≡ letter_after f v

-- words of one value over the new base have one letter, and each position has the letter that it has over the old base
pub record KeepsPlaces (old_direction : Direction) (old : ℕ) (f : LetterFunctionValue) (direction : Direction) (new : ℕ) (g : LetterFunctionValue) : Type 0 where
  pub of_places : HasLettersOfPlaces direction new g
  pub letters : (n : ℕ) (letter : ℤ) → HasLetterAt direction new g n letter ↔ HasLetterAt old_direction old f n letter
