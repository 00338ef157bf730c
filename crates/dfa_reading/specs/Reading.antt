-- What a file lists, from its bytes, or the line of its first fault.
use Rattle.std.specs.Prelude.{◌≡◌, ℕ, ◌+◌, ◌<◌, ◌-◌, ◌==◌, Bool, ◌&&◌, if◌then◌else◌, ℤ, List, [], ◌∷◌, ◌++◌, length, position, Option, None, Some, option_map, ok_or, Result, Ok, Err}
use Rattle.std.specs.List.{AllByRecursion, list_any}
use Rattle.dfa_reading.specs.Lines.{◌>>=◌, lines_of, line_after, is_passed, each_of}
use Rattle.dfa_reading.specs.Listed.{ListedLine, Listed}
use Rattle.dfa_reading.specs.Headers.{Header, has_states, digits_in, header_of}
use Rattle.dfa_reading.specs.Entries.{Entry, State, Line, entry_of}
use Rattle.dfa_reading.specs.declared.outputs.Outputs.{Outputs}
use Rattle.dfa_reading.specs.declared.outputs.Outputs.TheVariants.{Numbers}

-- What was read so far: the header, the numbers and the outputs of the states, and the transitions, each with the number of its
-- line and with its targets as the file has them: by their numbers.
pub record Draft : Type 0 where
  pub header : Option Header
  pub numbers : List ℕ
  pub outputs : List (Option ℤ)
  pub lines : List (ℕ × ListedLine)

abbrev pub no_draft : Draft
no_draft = record { header = None; numbers = []; outputs = []; lines = [] }

-- a state has this number
abbrev pub has_number : List ℕ → ℕ → Bool
has_number numbers n = list_any (λ m. n == m) numbers

abbrev pub with_header : Draft → Header → Draft
with_header draft header = record draft { header = Some header }

abbrev pub with_state : Draft → ℕ → Option ℤ → Draft
with_state draft n output = record draft { numbers = draft.numbers ++ n ∷ []; outputs = draft.outputs ++ output ∷ [] }

-- transitions of the state that was listed last, at a line
abbrev pub with_line : ℕ → Draft → List (Option ℕ) → List ℕ → Draft
with_line at draft digits targets = record draft { lines = draft.lines ++ (at, record { state = length draft.outputs - 1; digits = digits; targets = targets }) ∷ [] }

-- a state's number is new, and before transitions is a state
abbrev pub add_entry : ℕ → Draft → Entry → Option Draft
add_entry at draft (State n output) = if has_number draft.numbers n then None else Some (with_state draft n output)
add_entry at draft (Line digits targets) = if length draft.outputs == 0 then None else Some (with_line at draft digits targets)

-- below `true` and `false` is nothing, and below another header an entry
abbrev pub add_below : Outputs → ℕ → Draft → List ℕ → Header → Option Draft
add_below outputs at draft line header = if has_states header then entry_of outputs (digits_in header) line >>= add_entry at draft else None

-- the first line is the header
abbrev pub add_to : Outputs → ℕ → Draft → List ℕ → Option Header → Option Draft
add_to outputs at draft line None = option_map (with_header draft) (header_of line)
add_to outputs at draft line (Some header) = add_below outputs at draft line header

-- one line more; none where the line breaks the format
unfoldable pub add_line : Outputs → ℕ → Draft → List ℕ → Option Draft
add_line outputs at draft line = if is_passed line then Some draft else add_to outputs at draft line draft.header

-- what follows a step that did not fail
abbrev pub then_read : {A B : Type 0} → Result A ℕ → (A → Result B ℕ) → Result B ℕ
then_read (Ok x) f = f x
then_read (Err at) f = Err at

-- the lines from a number on, each added in this way, or the number of the first that breaks the format
abbrev pub add_lines_by : (ℕ → Draft → List ℕ → Option Draft) → ℕ → Draft → List (List ℕ) → Result Draft ℕ
add_lines_by add at draft [] = Ok draft
add_lines_by add at draft (line ∷ lines) = then_read (ok_or (add at draft line) at) (λ next. add_lines_by add (at + 1) next lines)

abbrev pub add_lines : Outputs → ℕ → Draft → List (List ℕ) → Result Draft ℕ
add_lines outputs at draft lines = add_lines_by (add_line outputs) at draft lines

-- the place of the state with a number
abbrev pub state_at : List ℕ → ℕ → Option ℕ
state_at numbers n = position (λ m. n == m) numbers

-- a line with its targets by their places
abbrev pub placed_line : List ℕ → ListedLine → Option ListedLine
placed_line numbers line = option_map (λ targets. record line { targets = targets }) (each_of (state_at numbers) line.targets)

-- the lines with their targets by their places, or the number of the first with a target that is no state
abbrev pub placed_lines : List ℕ → List (ℕ × ListedLine) → Result (List ListedLine) ℕ
placed_lines numbers [] = Ok []
placed_lines numbers (line ∷ lines) =
    then_read (ok_or (placed_line numbers line.1) line.0) (λ placed. then_read (placed_lines numbers lines) (λ others. Ok (placed ∷ others)))

-- the header, the states and the transitions
abbrev pub lists : Header → Draft → Result Listed ℕ
lists header draft = then_read (placed_lines draft.numbers draft.lines) (λ lines. Ok (record { header = header; outputs = draft.outputs; lines = lines }))

-- a header, at least one state below it unless it is `true` or `false`, and no target that is no state
abbrev pub finish_with : ℕ → Option Header → Draft → Result Listed ℕ
finish_with after None draft = Err after
finish_with after (Some header) draft = if has_states header && (length draft.outputs == 0) then Err after else lists header draft

abbrev pub finish : ℕ → Draft → Result Listed ℕ
finish after draft = finish_with after draft.header draft

-- what the bytes list
unfoldable pub relation_of : List ℕ → Result Listed ℕ
relation_of text = then_read (add_lines Numbers 1 no_draft (lines_of text)) (finish (line_after (lines_of text)))

-- how many tracks a header has
abbrev pub tracks_in : Option Header → ℕ
tracks_in None = 0
tracks_in (Some header) = length (digits_in header)

-- the line is of a state that was read, and has a digit for each track
pub record IsDraftLine (tracks states : ℕ) (line : ℕ × ListedLine) : Type 0 where
  pub state : line.1.state < states
  pub digits : length line.1.digits ≡ tracks

-- each state has a number and an output, and before the header is no line
pub record IsDraft (draft : Draft) : Type 0 where
  pub numbers : length draft.numbers ≡ length draft.outputs
  pub lines : AllByRecursion (IsDraftLine (tracks_in draft.header) (length draft.outputs)) draft.lines
  pub none : draft.header ≡ None → draft.lines ≡ []
