-- Keys of the maps of blocks, in which the ends have a number where they are in a list, and what the ends of a block lead to. Nobody has to
-- believe this: it serves the code.
use Rattle.std.specs.Prelude.{◌≡◌, ℕ, zero, suc, ◌+◌, ◌*◌, ◌/◌, ◌<◌, ◌^◌, List, [], ◌∷◌, ◌++◌, length, map, take, drop, slice_index, slice_index_or, Option, Some, Vec, nat_eq, nat_lt, if◌then◌else◌}
use Rattle.std.specs.Cmp.Lexicographic.{pointwise}
use Rattle.std.specs.List.{position_or_len, range_with_len}
use Rattle.std.specs.declared.alloc.Global.{Global}
use Rattle.digit_tuple.specs.Deterministic.{letters_of}
use Rattle.digit_tuple.specs.Explored.{key_at}
use Rattle.residual_classes.specs.Classes.{next_of}
use Rattle.transducer_reading.specs.Transducers.{Transducer}
use Rattle.word_output.specs.LetterFunctions.{LetterFunctionValue}
use Rattle.word_transduce.specs.BlockMaps.{at_pairs, first_end, first_output, output_in, pairs_of, state_before}
use Rattle.word_transduce.specs.PackedOutputs.{are_packed, packed, packed_len, unpacked}
use Rattle.word_transduce.specs.declared.block_lengths.BlockLength.{BlockLength}
use Rattle.word_transduce.specs.declared.block_lengths.BlockLengths.{BlockLengths}

-- the number of ends in a list: their first position, and how many there are where they are not in it
abbrev pub ends_number : List (List ℕ) → List ℕ → ℕ
ends_number list ends = position_or_len (λ other. pointwise nat_eq other ends) list

-- the ends as they are in a key: their number, and the ends too where they are not in the list
abbrev pub ends_part : List (List ℕ) → List ℕ → List ℕ
ends_part list ends = ends_number list ends ∷ (if nat_lt (ends_number list ends) (length list) then [] else ends)

-- the ends of a number in the list, and the others past it
abbrev pub ends_of : List (List ℕ) → ℕ → List ℕ → List ℕ
ends_of list number others = if nat_lt number (length list) then key_at list number else others

-- the key of two maps
abbrev pub block_key : Transducer → LetterFunctionValue → List (List ℕ) → List ℕ → List ℕ
block_key t f list maps = packed (are_packed t) (take (pairs_of t f) maps) ++ ends_part list (drop (pairs_of t f) maps)

-- where the number of the ends is in a key
abbrev pub number_place : Transducer → LetterFunctionValue → ℕ
number_place t f = packed_len (are_packed t) (pairs_of t f)

-- the outputs and the ends of a key
abbrev pub key_outputs : Transducer → LetterFunctionValue → List ℕ → List ℕ
key_outputs t f key = unpacked (are_packed t) (pairs_of t f) key

abbrev pub key_ends : Transducer → LetterFunctionValue → List (List ℕ) → List ℕ → List ℕ
key_ends t f list key = ends_of list (slice_index key (number_place t f)) (drop (number_place t f + 1) key)

-- the key of blocks of one letter
abbrev pub first_block_key : Transducer → LetterFunctionValue → List (List ℕ) → List ℕ
first_block_key t f list = packed (are_packed t) (at_pairs t f (first_output t f)) ++ ends_part list (at_pairs t f (first_end t f))

-- the ends of blocks of one digit more
abbrev pub ends_after : Transducer → LetterFunctionValue → List ℕ → List ℕ
ends_after t f ends = at_pairs t f (state_before t f ends (letters_of f.automaton))

-- the ends of blocks of one letter, of those of one digit more, and so on
abbrev pub ends_of_length : Transducer → LetterFunctionValue → ℕ → List ℕ
ends_of_length t f zero = at_pairs t f (first_end t f)
ends_of_length t f (suc digits) = ends_after t f (ends_of_length t f digits)

-- the list has the ends of the first lengths
abbrev pub AreFirstEnds : Transducer → LetterFunctionValue → List (List ℕ) → Type 0
AreFirstEnds t f list = (digits : ℕ) → digits < length list → key_at list digits ≡ ends_of_length t f digits

-- the key of the block of one digit more, with the outputs in the block of the digit
abbrev pub key_by : Transducer → LetterFunctionValue → List (List ℕ) → List ℕ → List ℕ → ℕ → List ℕ
key_by t f list outputs ends digit = packed (are_packed t) (at_pairs t f (output_in t f outputs ends digit)) ++ ends_part list (ends_after t f ends)

abbrev pub key_after : Transducer → LetterFunctionValue → List (List ℕ) → List ℕ → ℕ → Option (List ℕ)
key_after t f list key digit = Some (key_by t f list (key_outputs t f key) (key_ends t f list key) digit)

-- there is a number after the outputs
abbrev pub HasEnds : Transducer → LetterFunctionValue → List ℕ → Type 0
HasEnds t f key = number_place t f < length key

-- where a map has what it has at a state of the function and the state of a number; past it where the run has stopped
abbrev pub place_at : ℕ → ℕ → ℕ → ℕ → ℕ
place_at past states q zero = past
place_at past states q (suc s) = q * states + s

-- where the output in the block of a digit is among those of the blocks
abbrev pub place_in : Transducer → LetterFunctionValue → List ℕ → ℕ → ℕ → ℕ
place_in t f ends digit pair = place_at (pairs_of t f) t.states (next_of f.automaton (pair / t.states) digit) (state_before t f ends digit pair)

-- the positions of each digit
abbrev pub rows_of : BlockLength → List (List ℕ)
rows_of l = map (λ (row : Vec ℕ Global). row.items) l.places.items

-- the outputs at the positions of a digit, and then the ends
abbrev pub gathered : List ℕ → BlockLength → ℕ → List ℕ
gathered outputs l digit = packed l.is_packed (map (λ place. slice_index outputs place) (slice_index_or (rows_of l) digit [])) ++ l.ends.items

-- what blocks with the ends lead to
pub record IsBlockLength (t : Transducer) (f : LetterFunctionValue) (list : List (List ℕ)) (ends : List ℕ) (l : BlockLength) : Type 0 where
  pub form : l.is_packed ≡ are_packed t
  pub rows : rows_of l ≡ map (λ digit. at_pairs t f (place_in t f ends digit)) (range_with_len 0 (letters_of f.automaton))
  pub ends_are : l.ends.items ≡ ends_part list (ends_after t f ends)

-- what blocks with the ends of a list lead to
pub record AreListedLengths (t : Transducer) (f : LetterFunctionValue) (list : List (List ℕ)) (lengths : List BlockLength) : Type 0 where
  pub count : length lengths ≡ length list
  pub lengths_are : (number : ℕ) (l : BlockLength) → number < length list → IsBlockLength t f list (key_at list number) (slice_index_or lengths number l)

-- a list of ends, with what they lead to
pub record AreBlockLengths (t : Transducer) (f : LetterFunctionValue) (lengths : BlockLengths) : Type 0 where
  pub few : length lengths.ends < 2 ^ 32
  pub listed : AreListedLengths t f lengths.ends lengths.lengths.items
