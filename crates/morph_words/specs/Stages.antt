-- Reading rules lexeme by lexeme.
use Rattle.std.specs.Prelude.{ℕ, Bool, true, false, if◌then◌else◌, List, [], ◌∷◌, ◌++◌, length, ℤ, Option, None, Some, Result, Ok, Err}
use Rattle.morph_words.specs.declared.fault.RulesFault.{RulesFault}
use Rattle.morph_words.specs.declared.fault.RulesFault.TheVariants.{Syntax}
use Rattle.morph_words.specs.declared.lexeme.Lexeme.{Lexeme}
use Rattle.morph_words.specs.declared.lexeme.Lexeme.TheVariants.{Letter, Arrow, Blank, Comma}
use Rattle.text_grammar.specs.Spots.{Spot}
use Rattle.text_grammar.specs.Results.{◌>>=◌}
use Rattle.morph_words.specs.Lexemes.{spots}
use Rattle.morph_words.specs.Rules.{Rules, has, put}
use Rattle.morph_words.specs.Faults.{fault_of}

-- What was read of rules, by the place in them.
pub data Stage : Type 0 where
  -- before the first rule
  AtFirst : Stage
  -- after a rule's letter
  AfterLetter : Rules → ℤ → Stage
  -- after a rule's arrow
  AfterArrow : Rules → ℤ → Stage
  -- in a rule's image, after one letter or more
  InImage : Rules → ℤ → List ℤ → Stage
  -- after a rule and blanks
  AfterRule : Rules → Stage
  -- after a rule and a comma
  AfterComma : Rules → Stage

-- a further rule begins, unless there is one for its letter
abbrev pub begun : Rules → ℤ → Option Stage
begun rules letter = if has rules letter then None else Some (AfterLetter rules letter)

-- the stage after a lexeme, or none where no rules go on with it
abbrev pub step : Stage → Lexeme → Option Stage
step AtFirst Blank = Some AtFirst
step AtFirst (Letter letter) = Some (AfterLetter [] letter)
step AtFirst _ = None
step (AfterLetter rules letter) Blank = Some (AfterLetter rules letter)
step (AfterLetter rules letter) Arrow = Some (AfterArrow rules letter)
step (AfterLetter rules letter) _ = None
step (AfterArrow rules letter) Blank = Some (AfterArrow rules letter)
step (AfterArrow rules letter) (Letter image) = Some (InImage rules letter (image ∷ []))
step (AfterArrow rules letter) _ = None
step (InImage rules letter image) (Letter more) = Some (InImage rules letter (image ++ more ∷ []))
step (InImage rules letter image) Blank = Some (AfterRule (put rules letter image))
step (InImage rules letter image) Comma = Some (AfterComma (put rules letter image))
step (InImage rules letter image) _ = None
step (AfterRule rules) Blank = Some (AfterRule rules)
step (AfterRule rules) Comma = Some (AfterComma rules)
step (AfterRule rules) (Letter letter) = begun rules letter
step (AfterRule rules) _ = None
step (AfterComma rules) Blank = Some (AfterComma rules)
step (AfterComma rules) Comma = Some (AfterComma rules)
step (AfterComma rules) (Letter letter) = begun rules letter
step (AfterComma rules) _ = None

-- whether some letter goes on
abbrev pub takes_letter : Stage → Bool
takes_letter (AfterLetter rules letter) = false
takes_letter _ = true

-- the rules, where the text may end
abbrev pub ended : Stage → Option Rules
ended (InImage rules letter image) = Some (put rules letter image)
ended (AfterRule rules) = Some rules
ended _ = None

-- the value, or this fault where there is none
abbrev pub or_fault : {X : Type 0} → RulesFault → Option X → Result X RulesFault
or_fault fault None = Err fault
or_fault fault (Some x) = Ok x

-- the stage after a lexeme of a text, or the fault that it is
abbrev pub stepped : Stage → Spot Lexeme → Result Stage RulesFault
stepped stage s = or_fault (fault_of (takes_letter stage) s) (step stage s.token)

-- the rules of the further lexemes of a text that has `whole` bytes, or the first fault
abbrev pub run : ℕ → Stage → List (Spot Lexeme) → Result Rules RulesFault
run whole stage [] = or_fault (Syntax whole) (ended stage)
run whole stage (s ∷ ss) = stepped stage s >>= λ next. run whole next ss

-- the rules of a text, or its fault
abbrev pub rules_at : List ℕ → Result Rules RulesFault
rules_at text = run (length text) AtFirst (spots text)
