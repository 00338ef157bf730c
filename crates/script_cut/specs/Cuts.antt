-- How a script is cut into commands.
use Rattle.std.specs.Prelude.{◌≡◌, ◌≢◌, ◌⊎◌, ℕ, ◌+◌, ◌≤◌, Bool, false, IsTrue, List, [], ◌∷◌, ◌++◌, length}
use Rattle.script_cut.specs.Texts.{all_gaps, AreGaps, IsOpen, IsCommand, terminator_of, line_ends}

-- how a text ended: by `:` (shown) or `;`, by the script's end, or not, since the limit came first
pub data Ended : Type 0 where
  Terminated : Bool → Ended
  Unterminated : Ended
  PastLimit : Ended

-- what a script is cut into: a text, the line on which it begins, and how it ended
pub record Item : Type 0 where
  pub text : List ℕ
  pub line : ℕ
  pub ended : Ended

-- what is left of a script from a place on: the bytes, how many of them may still be passed, and the line
pub record Rest : Type 0 where
  pub left : List ℕ
  pub room : ℕ
  pub line : ℕ

-- a script is read up to 16,777,216 bytes
abbrev pub start : List ℕ → Rest
start script = record { left = script; room = 16777216; line = 1 }

-- gaps, a command, its terminator, and the rest
pub record CutsCommand (shown : Bool) (old : Rest) (before text : List ℕ) (new : Rest) : Type 0 where
  pub gaps : AreGaps before
  pub command : IsCommand text
  pub split : old.left ≡ before ++ (text ++ terminator_of shown ∷ new.left)
  pub room : new.room + (length before + length text + 1) ≡ old.room

-- gaps, and a command with no terminator up to the script's end
pub record CutsOpen (old : Rest) (before text : List ℕ) (new : Rest) : Type 0 where
  pub gaps : AreGaps before
  pub begun : IsOpen text
  pub split : old.left ≡ before ++ text
  pub room : new.room + (length before + length text) ≡ old.room
  pub nothing_left : new.left ≡ []

-- gaps, and a command that has begun
pub record HasBegun (bytes : List ℕ) : Type 0 where
  pub before : List ℕ
  pub text : List ℕ
  pub gaps : AreGaps before
  pub begun : IsOpen text
  pub split : bytes ≡ before ++ text

-- no command has its terminator in the bytes
abbrev pub HasNoCommand : List ℕ → Type 0
HasNoCommand bytes = IsTrue (all_gaps false bytes) ⊎ HasBegun bytes

-- as many bytes as may be passed, with no command that has its terminator, and a byte past them
pub record CutsOff (old : Rest) (before text : List ℕ) (new : Rest) : Type 0 where
  pub no_command : HasNoCommand before
  pub full : length before ≡ old.room
  pub past : List ℕ
  pub more : past ≢ []
  pub split : old.left ≡ before ++ past
  pub no_text : text ≡ []
  pub nothing_left : new.left ≡ []
  pub no_room : new.room ≡ 0

-- what comes before an item, the item's text, and the place after it
abbrev pub IsCut : Ended → Rest → List ℕ → List ℕ → Rest → Type 0
IsCut (Terminated shown) old before text new = CutsCommand shown old before text new
IsCut Unterminated old before text new = CutsOpen old before text new
IsCut PastLimit old before text new = CutsOff old before text new

-- The next item from a place on, and the place after it. Its line is that of its first byte; past the limit it is the line of the first
-- byte that may not be passed.
pub record Next (old : Rest) (item : Item) (new : Rest) : Type 0 where
  pub before : List ℕ
  pub cut : IsCut item.ended old before item.text new
  pub line_is : item.line ≡ old.line + line_ends before
  pub next_line : new.line ≡ item.line + line_ends item.text

-- no command up to the script's end; a comment may be open there
pub record IsAtEnd (place : Rest) : Type 0 where
  pub gaps : IsTrue (all_gaps false place.left)
  pub within : length place.left ≤ place.room

-- these items one after another, and the place after them
abbrev pub CutsTo : Rest → List Item → Rest → Type 0
CutsTo old [] new = new ≡ old
CutsTo old (item ∷ items) new = (mid : Rest) × Next old item mid × CutsTo mid items new

-- the items from a place on up to the end
pub record HasItems (place : Rest) (items : List Item) : Type 0 where
  pub last : Rest
  pub cut : CutsTo place items last
  pub end : IsAtEnd last
