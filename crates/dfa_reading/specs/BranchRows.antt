-- The rows of listed states, as they are built.
use Rattle.std.specs.Prelude.{◌≡◌, ℕ, ◌<◌, ◌^◌, Bool, true, false, not, ℤ, pos, List, [], ◌∷◌, ◌++◌, map, length, slice_set, Option, None, Some}
use Rattle.std.specs.List.{All, AllPairs}
use Rattle.std.specs.Ordering.{int_eq}
use Rattle.digit_tuple.specs.Automaton.{Branch, IsBefore}
use Rattle.digit_tuple.specs.Deterministic.{State}
use Rattle.digit_tuple.specs.Reversed.{branch_at, SameBranch}
use Rattle.digit_tuple.specs.declared.transitions.Transition.{Transition}
use Rattle.dfa_reading.specs.Listed.{ListedLine, Listed, IsListedLine}
use Rattle.dfa_reading.specs.LineLetters.{transitions_of_line}

-- an output other than 0 accepts
abbrev pub is_accepting_output : Option ℤ → Bool
is_accepting_output None = false
is_accepting_output (Some output) = not (int_eq output (pos 0))

-- a state with an output, without transitions
abbrev pub bare_row : Option ℤ → Branch
bare_row output = record { accepting = is_accepting_output output; transitions = [] }

-- a state with further transitions
abbrev pub with_transitions : Branch → List Transition → Branch
with_transitions row transitions = record { accepting = row.accepting; transitions = row.transitions ++ transitions }

-- rows with the transitions of a line
abbrev pub with_line : List ℕ → List Branch → ListedLine → List Branch
with_line sizes rows line = slice_set rows line.state (with_transitions (branch_at rows line.state) (transitions_of_line sizes line))

-- and of lines, one after another
abbrev pub rows_after : List ℕ → List Branch → List ListedLine → List Branch
rows_after sizes rows [] = rows
rows_after sizes rows (line ∷ lines) = rows_after sizes (with_line sizes rows line) lines

-- the rows have the same transitions, and those of the first rows are in order, each once
pub record AreInOrder (old new : List Branch) (count : ℕ) : Type 0 where
  pub size : length new ≡ length old
  pub same : (q : ℕ) → SameBranch (branch_at old q) (branch_at new q)
  pub ascending : (q : ℕ) → q < count → AllPairs IsBefore (branch_at new q).transitions

-- the rows are those of the listed states, in order
pub record AreRowsOf (sizes : List ℕ) (listed : Listed) (rows : List Branch) : Type 0 where
  pub ordered : AreInOrder (rows_after sizes (map bare_row listed.outputs) listed.lines) rows (length rows)
  pub small : length listed.outputs < 2 ^ 32
  pub lines : All (IsListedLine (length sizes) (length listed.outputs)) listed.lines

-- the state with the transitions of a row, which accepts
abbrev pub state_of_row : Branch → State
state_of_row row = record { accepting = true; transitions = row.transitions }

abbrev pub states_of_rows : List Branch → List State
states_of_rows rows = map state_of_row rows
