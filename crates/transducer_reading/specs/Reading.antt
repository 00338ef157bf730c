-- The transducer of a file, from its bytes, or the line of the first fault.
use Rattle.std.specs.Prelude.{◌≡◌, ℕ, ◌+◌, ◌-◌, ◌==◌, Bool, true, ◌&&◌, not, if◌then◌else◌, ℤ, List, [], ◌∷◌, ◌++◌, length, Option, None, Some, option_map, ok_or, Result, Ok, Err}
use Rattle.std.specs.List.{list_any}
use Rattle.std.specs.Ordering.{int_eq}
use Rattle.dfa_reading.specs.Lines.{◌>>=◌, lines_of, line_after, is_passed}
use Rattle.dfa_reading.specs.Reading.{has_number, state_at, then_read}
use Rattle.transducer_reading.specs.declared.transducer.TransducerLine.{TransducerLine}
use Rattle.transducer_reading.specs.Transducers.{Transducer, IsTransducer}
use Rattle.transducer_reading.specs.Entries.{set_of, Entry, State, Line, entry_of}

-- What was read so far: the set, the numbers of the states, and the lines of states, each with the number of its line in the file and with
-- its target as the file has it: by its number.
pub record Draft : Type 0 where
  pub set : Option (List ℤ)
  pub numbers : List ℕ
  pub lines : List (ℕ × TransducerLine)

abbrev pub no_draft : Draft
no_draft = record { set = None; numbers = []; lines = [] }

abbrev pub with_set : Draft → List ℤ → Draft
with_set draft set = record draft { set = Some set }

abbrev pub with_state : Draft → ℕ → Draft
with_state draft number = record draft { numbers = draft.numbers ++ number ∷ [] }

-- a line of the state that was listed last
abbrev pub last_line : List ℕ → Option ℤ → ℕ × ℤ → TransducerLine
last_line numbers letter result = record { state = length numbers - 1; letter = letter; target = result.0; output = result.1 }

abbrev pub with_line : ℕ → Draft → TransducerLine → Draft
with_line at draft line = record draft { lines = draft.lines ++ (at, line) ∷ [] }

-- some letter is of both: `*` has each letter of the set
abbrev pub share_letter : Option ℤ → Option ℤ → Bool
share_letter None other = true
share_letter (Some letter) None = true
share_letter (Some letter) (Some other) = int_eq letter other

-- two lines have different results: another target, or another output
abbrev pub differ : TransducerLine → TransducerLine → Bool
differ line other = not ((line.target == other.target) && int_eq line.output other.output)

-- two lines give different results for one state and one letter
abbrev pub are_in_conflict : TransducerLine → TransducerLine → Bool
are_in_conflict line other = (line.state == other.state) && (share_letter line.letter other.letter && differ line other)

-- the line is in conflict with one of the lines that were read
abbrev pub has_conflict : List (ℕ × TransducerLine) → TransducerLine → Bool
has_conflict lines line = list_any (λ other. are_in_conflict line other.1) lines

-- one line more, before which is a state, and which is in no conflict
abbrev pub add_line_of : ℕ → Draft → TransducerLine → Option Draft
add_line_of at draft line = if length draft.numbers == 0 then None else if has_conflict draft.lines line then None else Some (with_line at draft line)

-- a state's number is new
abbrev pub add_entry : ℕ → Draft → Entry → Option Draft
add_entry at draft (State number) = if has_number draft.numbers number then None else Some (with_state draft number)
add_entry at draft (Line letter result) = add_line_of at draft (last_line draft.numbers letter result)

-- the first line is the set
abbrev pub add_to : ℕ → Draft → List ℕ → Option (List ℤ) → Option Draft
add_to at draft line None = option_map (with_set draft) (set_of line)
add_to at draft line (Some set) = entry_of set line >>= add_entry at draft

-- one line of the file more; none where it breaks the format
unfoldable pub add_line : ℕ → Draft → List ℕ → Option Draft
add_line at draft line = if is_passed line then Some draft else add_to at draft line draft.set

-- the lines of the file from a number on, or the number of the first that breaks the format
abbrev pub add_lines : ℕ → Draft → List (List ℕ) → Result Draft ℕ
add_lines at draft [] = Ok draft
add_lines at draft (line ∷ lines) = then_read (ok_or (add_line at draft line) at) (λ next. add_lines (at + 1) next lines)

-- a line with its target by its place
abbrev pub placed_line : List ℕ → TransducerLine → Option TransducerLine
placed_line numbers line = option_map (λ target. record line { target = target }) (state_at numbers line.target)

-- the lines with their targets by their places, or the number of the first with a target that is no state
abbrev pub placed_lines : List ℕ → List (ℕ × TransducerLine) → Result (List TransducerLine) ℕ
placed_lines numbers [] = Ok []
placed_lines numbers (line ∷ lines) =
    then_read (ok_or (placed_line numbers line.1) line.0) (λ placed. then_read (placed_lines numbers lines) (λ others. Ok (placed ∷ others)))

-- the set, the states and the lines
abbrev pub made_of : List ℤ → Draft → Result Transducer ℕ
made_of set draft = then_read (placed_lines draft.numbers draft.lines) (λ lines. Ok (record { set = set; states = length draft.numbers; lines = lines }))

-- a set, at least one state, and no target that is no state; a file that ends too early has the line after its last
abbrev pub finish_with : ℕ → Option (List ℤ) → Draft → Result Transducer ℕ
finish_with after None draft = Err after
finish_with after (Some set) draft = if length draft.numbers == 0 then Err after else made_of set draft

abbrev pub finish : ℕ → Draft → Result Transducer ℕ
finish after draft = finish_with after draft.set draft

-- the transducer of a text, or the line of its first fault
unfoldable pub transducer_of : List ℕ → Result Transducer ℕ
transducer_of text = then_read (add_lines 1 no_draft (lines_of text)) (finish (line_after (lines_of text)))

-- what a text gives is a transducer
abbrev pub TransducerFilesGiveTransducers : Type 0
TransducerFilesGiveTransducers = (text : List ℕ) (t : Transducer) → transducer_of text ≡ Ok t → IsTransducer t
