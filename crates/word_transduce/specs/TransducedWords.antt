-- What a transducer makes of an automatic word over a base, the most significant digit first.
use Rattle.std.specs.Prelude.{◌≡◌, ◌↔◌, ◌≤◌, ℕ, ℤ, List, [], ◌∷◌, reverse}
use Rattle.digit_tuple.specs.Letters.{IsWord}
use Rattle.digit_tuple.specs.declared.direction.Direction.TheVariants.{Msd}
use Rattle.base_k.specs.Positional.{base}
use Rattle.num_system.specs.Tracks.{direction_of, systems_of}
use Rattle.transducer_reading.specs.LetterRuns.{Makes}
use Rattle.transducer_reading.specs.Transducers.{Transducer}
use Rattle.word_output.specs.LetterFunctions.{IsLetterFunction, LetterFunctionValue, letter_after}
use Rattle.word_output.specs.Words.{HasLetter, IsWordValue, WordValue}
use Rattle.word_transduce.specs.Transductions.{IsTransduction}

-- at each position the word has the output of the run over the other word's letters, and none where the run does not come or stops
pub record IsTransduced (t : Transducer) (word transduced : WordValue) : Type 0 where
  pub systems : transduced.systems ≡ word.systems
  pub word_is : IsWordValue transduced
  pub letters : (place : ℕ) (b : ℤ) → HasLetter transduced (place ∷ []) b ↔ Makes t (λ i a. HasLetter word (i ∷ []) a) place b

-- the letters that a transduction gives to the reversed words are those of the transduced word
abbrev pub TransductionsMakeWords : Type 0
TransductionsMakeWords = (t : Transducer) (k : ℕ) (word : WordValue) (transduced reversed : LetterFunctionValue) → 2 ≤ k → IsWordValue word → systems_of word.systems ≡ base k ∷ [] → direction_of word.systems ≡ Msd
    → IsTransduction t word.function transduced → IsLetterFunction reversed → reversed.automaton.sizes ≡ word.function.automaton.sizes → ((w : List ℕ) → IsWord k w → letter_after reversed w ≡ letter_after transduced (reverse w))
    → IsTransduced t word (record { systems = word.systems; function = reversed })
