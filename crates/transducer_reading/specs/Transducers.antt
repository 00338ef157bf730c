-- Transducers: a set of letters, states, and lines by which a letter leads from a state to a state with an output.
use Rattle.std.specs.Prelude.{◌≡◌, ℕ, ◌<◌, ◌==◌, Bool, ◌&&◌, ℤ, List, Option, None, Some, IfSome, IsTrue, option_map}
use Rattle.std.specs.List.{All, Contains, find, list_any}
use Rattle.std.specs.List.Sorted.{IsNonDecreasingBy}
use Rattle.std.specs.Ordering.{int_eq}
use Rattle.transducer_reading.specs.declared.transducer.TransducerLine.{TransducerLine}

-- The set of the letters, how many states there are, of which the first is initial, and the lines. A line (`TransducerLine` in
-- `src/transducer.rt`) is from a state by a letter (`None` is `*`) to a target with an output, where states are given by their places.
pub record Transducer : Type 0 where
  pub set : List ℤ
  pub states : ℕ
  pub lines : List TransducerLine

-- a letter is in a set
abbrev pub is_member : List ℤ → ℤ → Bool
is_member set letter = list_any (λ m. int_eq m letter) set

-- a letter takes itself, and `*` takes each of the set
abbrev pub takes_by : Bool → Option ℤ → ℤ → Bool
takes_by member None letter = member
takes_by member (Some wanted) letter = int_eq wanted letter

abbrev pub takes_letter : List ℤ → Option ℤ → ℤ → Bool
takes_letter set wanted letter = takes_by (is_member set letter) wanted letter

-- the line is from the state, and takes the letter
abbrev pub is_line_from : Transducer → ℕ → ℤ → TransducerLine → Bool
is_line_from t state letter line = (line.state == state) && takes_letter t.set line.letter letter

-- the first line from a state by a letter
abbrev pub line_from : Transducer → ℕ → ℤ → Option TransducerLine
line_from t state letter = find (is_line_from t state letter) t.lines

-- the state to which a letter leads from a state
abbrev pub target_of : Transducer → ℕ → ℤ → Option ℕ
target_of t state letter = option_map (λ line. line.target) (line_from t state letter)

-- the output with which it leads there
abbrev pub output_of : Transducer → ℕ → ℤ → Option ℤ
output_of t state letter = option_map (λ line. line.output) (line_from t state letter)

-- a line is between states, and its letter is in the set
pub record IsTransducerLine (set : List ℤ) (states : ℕ) (line : TransducerLine) : Type 0 where
  pub state : line.state < states
  pub letter : IfSome line.letter (λ letter. IsTrue (is_member set letter))
  pub target : line.target < states

-- two lines have one target and one output
pub record HaveOneResult (line other : TransducerLine) : Type 0 where
  pub target : line.target ≡ other.target
  pub output : line.output ≡ other.output

-- by a letter a state has one result, whichever of its lines is taken
abbrev pub IsFunctional : Transducer → Type 0
IsFunctional t = (state : ℕ) (letter : ℤ) (line other : TransducerLine) → Contains t.lines line → Contains t.lines other → IsTrue (is_line_from t state letter line) → IsTrue (is_line_from t state letter other) → HaveOneResult line other

-- there is a state; the lines are between states, by letters of the set, and in the order of their states; each result is one
pub record IsTransducer (t : Transducer) : Type 0 where
  pub some : 0 < t.states
  pub lines : All (IsTransducerLine t.set t.states) t.lines
  pub order : IsNonDecreasingBy (λ line. line.state) t.lines
  pub functional : IsFunctional t
