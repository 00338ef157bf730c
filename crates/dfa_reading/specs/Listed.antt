-- What an automaton file lists, and the words that this accepts.
use Rattle.std.specs.Prelude.{◌≡◌, ◌≢◌, ℕ, ◌<◌, ℤ, pos, List, [], ◌∷◌, length, slice_index_or, Option, None, Some, ⊤}
use Rattle.std.specs.List.{All, Contains}
use Rattle.dfa_reading.specs.Headers.{Header, digits_in}

-- Transitions from a state, by one digit on each track, to each of some states. `None` is `*`, a member of a set is given by its place in
-- the set, and a state by its place among the states.
pub record ListedLine : Type 0 where
  pub state : ℕ
  pub digits : List (Option ℕ)
  pub targets : List ℕ

-- the tracks, the output of each state, of which the first is initial, and the transitions; an output `None` is no letter
pub record Listed : Type 0 where
  pub header : Header
  pub outputs : List (Option ℤ)
  pub lines : List ListedLine

-- a digit takes itself, and `*` takes each
abbrev pub TakesDigit : Option ℕ → ℕ → Type 0
TakesDigit None digit = ⊤
TakesDigit (Some wanted) digit = digit ≡ wanted

-- The line's digits take the tuple, whose digits are below the sizes of their tracks. So a digit outside its track takes none.
abbrev pub Takes : List ℕ → List (Option ℕ) → List ℕ → Type 0
Takes [] [] [] = ⊤
Takes (size ∷ sizes) (wanted ∷ digits) (digit ∷ tuple) = (digit < size) × (TakesDigit wanted digit × Takes sizes digits tuple)
Takes _ _ _ = ⊥

-- on tracks of these sizes a listed transition leads from one state to another by the tuple
abbrev pub Moves : List ℕ → Listed → ℕ → List ℕ → ℕ → Type 0
Moves sizes listed p tuple q = (line : ListedLine) × Contains listed.lines line × (line.state ≡ p) × Takes sizes line.digits tuple × Contains line.targets q

-- a path of listed transitions by the letters of the word
abbrev pub MovesAlong : List ℕ → Listed → ℕ → List (List ℕ) → ℕ → Type 0
MovesAlong sizes listed p [] q = p ≡ q
MovesAlong sizes listed p (tuple ∷ word) q = (r : ℕ) × Moves sizes listed p tuple r × MovesAlong sizes listed r word q

-- the output of a state, if there is such a state and its output is a letter
abbrev pub output_of : Listed → ℕ → Option ℤ
output_of listed q = slice_index_or listed.outputs q None

-- an output other than 0 accepts
abbrev pub IsAccepting : Listed → ℕ → Type 0
IsAccepting listed q = (output : ℤ) × (output_of listed q ≡ Some output) × (output ≢ pos 0)

-- some path by the letters of the word leads from the initial state to an accepting state
abbrev pub ListedAccepts : List ℕ → Listed → List (List ℕ) → Type 0
ListedAccepts sizes listed word = (q : ℕ) × MovesAlong sizes listed 0 word q × IsAccepting listed q

-- a line leads from a state to states by a digit on each track
pub record IsListedLine (tracks states : ℕ) (line : ListedLine) : Type 0 where
  pub state : line.state < states
  pub digits : length line.digits ≡ tracks
  pub targets : All (λ target. target < states) line.targets

-- each line is one of the listed tracks and states
abbrev pub IsListed : Listed → Type 0
IsListed listed = All (IsListedLine (length (digits_in listed.header)) (length listed.outputs)) listed.lines
