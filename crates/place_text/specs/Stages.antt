-- Reading a place lexeme by lexeme. Nobody has to believe this: it serves the code that reads.
use Rattle.std.specs.Prelude.{ℕ, Bool, true, false, List, [], ◌∷◌, ◌++◌, length, ℤ, Option, None, Some, Result, Ok, Err}
use Rattle.place_text.specs.declared.fault.PlaceFault.{PlaceFault}
use Rattle.place_text.specs.declared.fault.PlaceFault.TheVariants.{Syntax}
use Rattle.place_text.specs.declared.lexeme.Lexeme.{Lexeme}
use Rattle.place_text.specs.declared.lexeme.Lexeme.TheVariants.{Open, Close, Comma, Number}
use Rattle.text_grammar.specs.Spots.{Spot}
use Rattle.text_grammar.specs.Results.{◌>>=◌}
use Rattle.place_text.specs.Lexemes.{spots}
use Rattle.place_text.specs.Faults.{fault_of}

-- What was read of a place, by the position in it.
pub data Stage : Type 0 where
  -- before all
  AtStart : Stage
  -- after the first bracket
  AtFirst : Stage
  -- after the bracket of a further letter
  AtLetter : List (List ℤ) → Stage
  -- after a digit of a letter
  AfterDigit : List (List ℤ) → List ℤ → Stage
  -- after a comma in a letter
  AfterComma : List (List ℤ) → List ℤ → Stage
  -- after a letter
  AfterLetter : List (List ℤ) → Stage
  -- after empty brackets
  AfterEmpty : Stage

-- the stage after a lexeme, or none where no place goes on with it
abbrev pub step : Stage → Lexeme → Option Stage
step AtStart Open = Some AtFirst
step AtStart _ = None
step AtFirst Close = Some AfterEmpty
step AtFirst (Number digit) = Some (AfterDigit [] (digit ∷ []))
step AtFirst _ = None
step (AtLetter letters) (Number digit) = Some (AfterDigit letters (digit ∷ []))
step (AtLetter letters) _ = None
step (AfterDigit letters digits) Comma = Some (AfterComma letters digits)
step (AfterDigit letters digits) Close = Some (AfterLetter (letters ++ digits ∷ []))
step (AfterDigit letters digits) _ = None
step (AfterComma letters digits) (Number digit) = Some (AfterDigit letters (digits ++ digit ∷ []))
step (AfterComma letters digits) _ = None
step (AfterLetter letters) Open = Some (AtLetter letters)
step (AfterLetter letters) _ = None
step AfterEmpty _ = None

-- whether a number goes on
abbrev pub takes_number : Stage → Bool
takes_number AtFirst = true
takes_number (AtLetter letters) = true
takes_number (AfterComma letters digits) = true
takes_number _ = false

-- the place, where the text may end
abbrev pub ended : Stage → Option (List (List ℤ))
ended (AfterLetter letters) = Some letters
ended AfterEmpty = Some []
ended _ = None

-- the value, or this fault where there is none
abbrev pub or_fault : {X : Type 0} → PlaceFault → Option X → Result X PlaceFault
or_fault fault None = Err fault
or_fault fault (Some x) = Ok x

-- the stage after a lexeme of a text, or the fault that it is
abbrev pub stepped : Stage → Spot Lexeme → Result Stage PlaceFault
stepped stage s = or_fault (fault_of (takes_number stage) s) (step stage s.token)

-- the place of the further lexemes of a text that has `whole` bytes, or the first fault
abbrev pub run : ℕ → Stage → List (Spot Lexeme) → Result (List (List ℤ)) PlaceFault
run whole stage [] = or_fault (Syntax whole) (ended stage)
run whole stage (s ∷ ss) = stepped stage s >>= λ next. run whole next ss

-- the place of a text, or its fault
abbrev pub place_at : List ℕ → Result (List (List ℤ)) PlaceFault
place_at text = run (length text) AtStart (spots text)
