-- What reading a text gives: its place, or the fault at the first lexeme with which no place goes on.
use Rattle.std.specs.Prelude.{◌≡◌, ℕ, ◌≤◌, Bool, true, false, List, [], ◌∷◌, ◌++◌, length, take, slice_get, ℤ, Option, None, Some, Result, Ok, Err, ⊤}
use Rattle.std.specs.Bool.{MatchBool}
use Rattle.text_grammar.specs.Faults.{Begins, BreaksAt}
use Rattle.text_grammar.specs.Spots.{Spot}
use Rattle.place_text.specs.declared.fault.PlaceFault.{PlaceFault}
use Rattle.place_text.specs.declared.fault.PlaceFault.TheVariants.{Syntax, Number, Memory}
use Rattle.place_text.specs.declared.lexeme.Lexeme.{Lexeme}
use Rattle.place_text.specs.declared.lexeme.Lexeme.TheVariants as lexeme
use Rattle.place_text.specs.Lexemes.{spots, lexemes}
use Rattle.place_text.specs.Grammar.{Derives}

-- The fault of a lexeme that should be a number, at its byte and before the byte after it: a number that is too long is determined by its
-- first byte, and a sign without digits by the byte after it.
abbrev pub no_number : Lexeme → ℕ → ℕ → PlaceFault
no_number lexeme.Long at after = Number at
no_number lexeme.Sign at after = Syntax after
no_number _ at after = Syntax at

-- the fault of a lexeme with which no place goes on, where a number may be or may not
abbrev pub fault_of : Bool → Spot Lexeme → PlaceFault
fault_of true s = no_number s.token s.at s.after
fault_of false s = Syntax s.at

-- a number may come after these lexemes
abbrev pub MayBeNumber : List Lexeme → Type 0
MayBeNumber before = (number : ℤ) × Begins Derives (before ++ lexeme.Number number ∷ [])

-- the fault at a lexeme of a text; after the last it is at the text's length
abbrev pub fault_at : List ℕ → Bool → Option (Spot Lexeme) → PlaceFault
fault_at text at_number None = Syntax (length text)
fault_at text at_number (Some s) = fault_of at_number s

-- this is the fault of a text: it is at the first lexeme with which no place goes on, or at the text's length
pub record IsFault (text : List ℕ) (fault : PlaceFault) : Type 0 where
  pub count : ℕ
  pub breaks : BreaksAt Derives (lexemes text) count
  pub at_number : Bool
  pub may_be : MatchBool at_number (MayBeNumber (take count (lexemes text))) (MayBeNumber (take count (lexemes text)) → ⊥)
  pub fault_is : fault ≡ fault_at text at_number (slice_get (spots text) count)

-- what reading a text gives
abbrev pub Parses : List ℕ → Result (List (List ℤ)) PlaceFault → Type 0
Parses text (Ok letters) = Derives (lexemes text) letters
Parses text (Err Memory) = ⊤
Parses text (Err (Syntax at)) = IsFault text (Syntax at)
Parses text (Err (Number at)) = IsFault text (Number at)

-- the byte of a fault is in a text of so many bytes, or at its end
abbrev pub IsWithin : ℕ → PlaceFault → Type 0
IsWithin len (Syntax at) = at ≤ len
IsWithin len (Number at) = at ≤ len
IsWithin len Memory = ⊤
