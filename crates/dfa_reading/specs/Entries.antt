-- The lines below a header.
use Rattle.std.specs.Prelude.{ℕ, ◌^◌, ◌==◌, Bool, false, if◌then◌else◌, ℤ, List, [], ◌∷◌, position, Option, None, Some, option_map}
use Rattle.std.specs.Ordering.{int_eq}
use Rattle.dfa_reading.specs.Numbers.{number_below, integer_of}
use Rattle.dfa_reading.specs.Lines.{◌>>=◌, parts_of, arrow_at, each_of}
use Rattle.dfa_reading.specs.Headers.{Digits, Members, Below}
use Rattle.dfa_reading.specs.declared.outputs.Outputs.{Outputs}
use Rattle.dfa_reading.specs.declared.outputs.Outputs.TheVariants.{Numbers, Letters}

-- a state with its output (`None` is `-`), or transitions by these digits (`None` is `*`) to the states of these numbers
pub data Entry : Type 0 where
  State : ℕ → Option ℤ → Entry
  Line : List (Option ℕ) → List ℕ → Entry

abbrev pub is_star : List ℕ → Bool
is_star (b ∷ []) = b == 42
is_star _ = false

-- the place of a member of a set
abbrev pub place_in : List ℤ → ℤ → Option ℕ
place_in set member = position (λ m. int_eq m member) set

-- the digit of a track that a text denotes: a member by its index in the set, a number by itself
abbrev pub one_digit : Digits → List ℕ → Option ℕ
one_digit (Members set) part = integer_of part >>= place_in set
one_digit (Below limit) part = number_below limit part

-- `*`, or a digit of the track
abbrev pub digit_of : Digits → List ℕ → Option (Option ℕ)
digit_of track part = if is_star part then Some None else option_map Some (one_digit track part)

-- one digit for each track
abbrev pub digits_of : List Digits → List (List ℕ) → Option (List (Option ℕ))
digits_of [] [] = Some []
digits_of [] (part ∷ parts) = None
digits_of (track ∷ tracks) [] = None
digits_of (track ∷ tracks) (part ∷ parts) = do
  digit ← digit_of track part
  digits ← digits_of tracks parts
  Some (digit ∷ digits)

-- the number of a state
abbrev pub state_number : List ℕ → Option ℕ
state_number part = number_below (2 ^ 32) part

-- at least one target
abbrev pub targets_of : List (List ℕ) → Option (List ℕ)
targets_of [] = None
targets_of (part ∷ parts) = each_of state_number (part ∷ parts)

abbrev pub is_dash : List ℕ → Bool
is_dash (b ∷ []) = b == 45
is_dash _ = false

-- an output: a number, or where outputs are letters also `-`, which is no letter
abbrev pub output_by : Outputs → List ℕ → Option (Option ℤ)
output_by Numbers part = option_map Some (integer_of part)
output_by Letters part = if is_dash part then Some None else option_map Some (integer_of part)

-- a state's number and its output
abbrev pub state_of : Outputs → List (List ℕ) → Option Entry
state_of outputs (number ∷ output ∷ []) = do
  n ← state_number number
  letter ← output_by outputs output
  Some (State n letter)
state_of outputs _ = None

-- digits and targets
abbrev pub line_of : List Digits → List (List ℕ) → List (List ℕ) → Option Entry
line_of tracks digits targets = do
  ds ← digits_of tracks digits
  ts ← targets_of targets
  Some (Line ds ts)

-- a line with `->` has transitions, and any other a state
abbrev pub entry_by : Outputs → List Digits → List ℕ → Option (List ℕ × List ℕ) → Option Entry
entry_by outputs tracks line None = state_of outputs (parts_of line)
entry_by outputs tracks line (Some p) = line_of tracks (parts_of p.0) (parts_of p.1)

unfoldable pub entry_of : Outputs → List Digits → List ℕ → Option Entry
entry_of outputs tracks line = entry_by outputs tracks line (arrow_at line)
