-- Transductions are runs of a transducer over the letters that positions have.
use Rattle.std.specs.Prelude.{◌≡◌, ◌↔◌, ℕ, ℤ, List, ◌∷◌, Some}
use Rattle.digit_tuple.specs.Letters.{IsWord}
use Rattle.base_k.specs.Positional.{value}
use Rattle.transducer_reading.specs.LetterRuns.{Makes}
use Rattle.transducer_reading.specs.Transducers.{Transducer}
use Rattle.word_output.specs.LetterFunctions.{LetterFunctionValue, letter_after}
use Rattle.word_transduce.specs.Blocks.{base_of, place_of}
use Rattle.word_transduce.specs.Transductions.{IsTransduction}

-- some word that represents the position, the most significant digit first, has the letter
abbrev pub HasLetterAt : LetterFunctionValue → ℕ → ℤ → Type 0
HasLetterAt f n a = (w : List ℕ) × IsWord (base_of f) w × (value (base_of f) w ≡ n) × (letter_after f w ≡ Some a)

-- leading zeros change no letter
abbrev pub IgnoresZeros : LetterFunctionValue → Type 0
IgnoresZeros f = (w : List ℕ) → IsWord (base_of f) w → letter_after f (0 ∷ w) ≡ letter_after f w

-- a word that represents a position has the output that the run over the old word's letters makes there, if it comes there and goes on
abbrev pub TransductionsAreRuns : Type 0
TransductionsAreRuns = (t : Transducer) (f transduced : LetterFunctionValue) → IsTransduction t f transduced → IgnoresZeros f
    → (w : List ℕ) (b : ℤ) → IsWord (base_of f) w → (letter_after transduced w ≡ Some b) ↔ Makes t (HasLetterAt f) (place_of (base_of f) w) b
