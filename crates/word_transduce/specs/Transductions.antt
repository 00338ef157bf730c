-- The step that makes of a word the word of a transducer's outputs. The old word's letters are those of a function that reads the most
-- significant digit first, the new word's those of one that reads the least significant digit first.
use Rattle.std.specs.Prelude.{◌≡◌, ℕ, ◌<◌, ◌^◌, List, [], length, Some}
use Rattle.digit_tuple.specs.Letters.{IsWord}
use Rattle.digit_tuple.specs.declared.kind.Kind.TheVariants as kinds
use Rattle.transducer_reading.specs.Transducers.{Transducer}
use Rattle.automaton_steps.specs.Makings.{Making}
use Rattle.word_output.specs.LetterFunctions.{LetterFunctionValue, IsLetterFunction, letter_after}
use Rattle.word_transduce.specs.Runs.{run, made, output_at}
use Rattle.word_transduce.specs.Blocks.{base_of, block, place_of}

-- from each state, and over the block of letters after each word, the two words represent positions with one output, made in one state; and the
-- runs end in one state, or both stop, over blocks as long as there are words as long as theirs
pub record TransduceAlike (t : Transducer) (f : LetterFunctionValue) (w v : List ℕ) : Type 0 where
  pub outputs : (u : List ℕ) (s : ℕ) → IsWord (base_of f) u → s < t.states
      → made t (block f (length w) u) (place_of (base_of f) w) (Some s) ≡ made t (block f (length v) u) (place_of (base_of f) v) (Some s)
  pub ends : (u : List ℕ) (s : ℕ) → IsWord (base_of f) u → s < t.states
      → run t (block f (length w) u) (base_of f ^ length w) (Some s) ≡ run t (block f (length v) u) (base_of f ^ length v) (Some s)

-- a word has the output at the position that it represents, of the run over the letters of so many digits
pub record IsTransduction (t : Transducer) (f transduced : LetterFunctionValue) : Type 0 where
  pub sizes : transduced.automaton.sizes ≡ f.automaton.sizes
  pub function : IsLetterFunction transduced
  pub letters : (w : List ℕ) → IsWord (base_of f) w → letter_after transduced w ≡ output_at t (block f (length w) []) (place_of (base_of f) w)

-- the step
abbrev pub transduce_step : Transducer → LetterFunctionValue → Making LetterFunctionValue
transduce_step t f = record {
  step = record { kind = kinds.Transduce; sizes = f.automaton.sizes; alike = TransduceAlike t f };
  automaton_of = λ transduced. transduced.automaton;
  IsMade = IsTransduction t f;
}
