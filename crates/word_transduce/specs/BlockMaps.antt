-- The maps of a block's outputs and of its ends, from each pair of a state of a letter function and a state of a transducer. Nobody has to
-- believe this: it serves the code.
use Rattle.std.specs.Prelude.{◌==◌, ◌&&◌, ℕ, zero, suc, ◌+◌, ◌*◌, ◌-◌, ◌/◌, ◌%◌, ◌<◌, ◌^◌, ℤ, Bool, List, ◌++◌, length, map, take, drop, slice_index, slice_get, Option, None, Some, option_map}
use Rattle.std.specs.List.{position_or_len, range_with_len}
use Rattle.std.specs.Option.{option_and_then}
use Rattle.std.specs.Ordering.{int_eq}
use Rattle.digit_tuple.specs.Deterministic.{letters_of, states_of}
use Rattle.residual_classes.specs.Classes.{next_of}
use Rattle.class_reversal.specs.BackwardClasses.{AreTargets}
use Rattle.transducer_reading.specs.declared.transducer.TransducerLine.{TransducerLine}
use Rattle.transducer_reading.specs.Transducers.{IsTransducer, Transducer, target_of}
use Rattle.word_output.specs.LetterFunctions.{IsLetterFunction, LetterFunctionValue}
use Rattle.word_output.specs.StateLetters.{letter_of_state}
use Rattle.word_transduce.specs.PackedOutputs.{are_packed, key_output}
use Rattle.word_transduce.specs.Runs.{made_of}

-- the line is from the state and has the output
abbrev pub is_output : ℕ → ℤ → TransducerLine → Bool
is_output state output line = (line.state == state) && int_eq line.output output

-- the number of an output with its state: one more than the position of the first line that has both, and 0 where there is none
abbrev pub output_number : List TransducerLine → Option (ℕ × ℤ) → ℕ
output_number lines None = 0
output_number lines (Some p) = position_or_len (is_output p.0 p.1) lines + 1

-- the output of a number
abbrev pub numbered_output : List TransducerLine → ℕ → Option ℤ
numbered_output lines zero = None
numbered_output lines (suc place) = option_map (λ line. line.output) (slice_get lines place)

-- the number of a state: one more than its position, and 0 where the run has stopped
abbrev pub state_number : Option ℕ → ℕ
state_number None = 0
state_number (Some state) = state + 1

-- how many pairs there are
abbrev pub pairs_of : Transducer → LetterFunctionValue → ℕ
pairs_of t f = states_of f.automaton * t.states

-- the values at all pairs
abbrev pub at_pairs : Transducer → LetterFunctionValue → (ℕ → ℕ) → List ℕ
at_pairs t f value = map value (range_with_len 0 (pairs_of t f))

-- the maps of one letter
abbrev pub first_output : Transducer → LetterFunctionValue → ℕ → ℕ
first_output t f pair = output_number t.lines (made_of t (pair % t.states) (letter_of_state f (pair / t.states)))

abbrev pub first_end : Transducer → LetterFunctionValue → ℕ → ℕ
first_end t f pair = state_number (option_and_then (λ a. target_of t (pair % t.states) a) (letter_of_state f (pair / t.states)))

-- both maps
abbrev pub first_maps : Transducer → LetterFunctionValue → List ℕ
first_maps t f = at_pairs t f (first_output t f) ++ at_pairs t f (first_end t f)

-- what a map has at a state of the function and the state of a number; 0 at the sink, and where the run has stopped
abbrev pub map_at : List ℕ → ℕ → ℕ → ℕ → ℕ
map_at numbers states q zero = 0
map_at numbers states q (suc s) = slice_index numbers (q * states + s)

-- where runs are after the blocks of so many digits, one after another
abbrev pub state_before : Transducer → LetterFunctionValue → List ℕ → ℕ → ℕ → ℕ
state_before t f ends zero pair = pair % t.states + 1
state_before t f ends (suc digit) pair = map_at ends t.states (next_of f.automaton (pair / t.states) digit) (state_before t f ends digit pair)

-- the output in the block of a digit
abbrev pub output_in : Transducer → LetterFunctionValue → List ℕ → List ℕ → ℕ → ℕ → ℕ
output_in t f outputs ends digit pair = map_at outputs t.states (next_of f.automaton (pair / t.states) digit) (state_before t f ends digit pair)

-- the maps of the block that has as many digits more as one, with the output in the block of the digit
abbrev pub maps_by : Transducer → LetterFunctionValue → List ℕ → List ℕ → ℕ → List ℕ
maps_by t f outputs ends digit = at_pairs t f (output_in t f outputs ends digit) ++ at_pairs t f (state_before t f ends (letters_of f.automaton))

abbrev pub maps_after : Transducer → LetterFunctionValue → List ℕ → ℕ → Option (List ℕ)
maps_after t f key digit = Some (maps_by t f (take (pairs_of t f) key) (drop (pairs_of t f) key) digit)

-- numbers of states and lines fit in 32 bits
pub record HasFewLines (t : Transducer) : Type 0 where
  pub states : t.states < 2 ^ 32 - 1
  pub lines : length t.lines < 2 ^ 32 - 1

-- a transducer, a letter function and its targets
pub record IsBlockGraph (t : Transducer) (f : LetterFunctionValue) (targets : List ℕ) : Type 0 where
  pub transducer : IsTransducer t
  pub few : HasFewLines t
  pub function : IsLetterFunction f
  pub targets_are : AreTargets f.automaton targets

-- the letter of a key: that of the pair of the first states
abbrev pub key_letter : Transducer → List ℕ → Option ℤ
key_letter t key = numbered_output t.lines (key_output (are_packed t) key 0)
