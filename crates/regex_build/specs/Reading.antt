-- What reading a token gives, as the code has it.
use Rattle.std.specs.Prelude.{◌≡◌, ℕ, ◌<◌, ◌≤◌, Bool, ℤ, List, [], ◌∷◌, length, drop, All, Option, None, Some, IsSome, Result, Ok, Err, ⊤, Vec}
use Rattle.std.specs.List.{fold}
use Rattle.std.specs.declared.alloc.Global.{Global}
use Rattle.regex_build.specs.declared.postfix_symbol.PostfixSymbol.{PostfixSymbol}
use Rattle.regex_build.specs.declared.token.Token.{Token as Rust'}
use Rattle.regex_build.specs.declared.token.Token.TheVariants as token
use Rattle.regex_build.specs.declared.lexing.Lexeme.{Lexeme as Lexeme'}
use Rattle.regex_build.specs.declared.lexing.Spot.{Spot as Spot'}
use Rattle.regex_build.specs.declared.fault.Refusal.{Refusal}
use Rattle.regex_build.specs.declared.fault.Refusal.TheVariants as refusals
use Rattle.regex_build.specs.declared.fault.RegexFault.{RegexFault}
use Rattle.regex_build.specs.declared.fault.RegexFault.TheVariants as faults
use Rattle.regex_build.specs.declared.reading.Stage.{Stage}
use Rattle.regex_build.specs.declared.reading.Reading.{Reading}
use Rattle.regex_build.specs.Tokens as tokens
use Rattle.regex_build.specs.Tokens.{Token}
use Rattle.text_grammar.specs.Spots.{Lexeme, spots_from}
use Rattle.regex_build.specs.Spots.{inside_after, lexing}
use Rattle.regex_build.specs.Patterns.{IsOver}
use Rattle.regex_build.specs.Postfix.{IsPostfix, tree_of}
use Rattle.regex_build.specs.Limits.{Around, IsAllowed}
use Rattle.regex_build.specs.Parsing.{IsNumber, IsOpening, IsTextOf, Parses}
use Rattle.regex_build.specs.Machine.{State, enter, step_at}

abbrev pub token_view : Rust' → Token
token_view token.Bar = tokens.bar
token_view token.Star = tokens.star
token_view token.Plus = tokens.plus
token_view token.Optional = tokens.optional
token_view token.Dot = tokens.dot
token_view token.Opening = tokens.opening
token_view token.Closing = tokens.closing
token_view token.Bracket = tokens.bracket
token_view token.Comma = tokens.comma
token_view token.Unbracket = tokens.unbracket
token_view (token.Digit d) = tokens.digit d
token_view (token.Number z) = tokens.number z
token_view token.Other = tokens.other

-- a digit is below ten
abbrev pub IsWritten : Token → Type 0
IsWritten (tokens.digit d) = d < 10
IsWritten _ = ⊤

abbrev pub lexeme_view : Lexeme' → Lexeme Token
lexeme_view l = record { token = token_view l.token; len = l.len }

-- the next token of a text from a byte on
pub record IsNext (inside : Bool) (text : List ℕ) (start : ℕ) (s : Spot') : Type 0 where
  pub within : s.end ≤ length text
  pub moves : start < s.end
  pub written : IsWritten (token_view s.token)
  pub spots_are : spots_from lexing inside start 0 (drop start text) ≡ record { token = token_view s.token; at = s.at; after = s.end } ∷ spots_from lexing (inside_after inside (token_view s.token)) s.end 0 (drop s.end text)

abbrev pub IsNextOrNone : Bool → List ℕ → ℕ → Option Spot' → Type 0
IsNextOrNone inside text start None = spots_from lexing inside start 0 (drop start text) ≡ []
IsNextOrNone inside text start (Some s) = IsNext inside text start s

abbrev pub state_view : Reading → State
state_view r = record {
  outer = fold (λ gs g. g ∷ gs) [] r.outer.items;
  group = r.group;
  stage = r.stage;
  letter = r.letter;
  symbols = r.symbols.items;
}

abbrev pub around : State → Around
around s = record { nesting = length s.outer; numbers = length s.letter }

-- one token more was read, if the machine reads it and it is allowed
abbrev pub Answers : Option State → Type 0 → Token → State → Result (Unit {0}) Refusal → Type 0
Answers o Allowed t new (Ok _) = (o ≡ Some new) × Allowed
Answers o Allowed t new (Err refusals.Syntax) = o ≡ None
Answers o Allowed t new (Err refusals.Number) = IsSome o × IsNumber t × (Allowed → ⊥)
Answers o Allowed t new (Err refusals.Depth) = IsSome o × IsOpening t × (Allowed → ⊥)
Answers o Allowed t new (Err refusals.Memory) = ⊤

-- what reading a token with which a post begins gives
abbrev pub Enters : List (List ℤ) → State → Token → State → Result (Unit {0}) Refusal → Type 0
Enters sets old t new result = Answers (enter (length sets) old t) (IsAllowed sets (around old) t) t new result

-- what reading a token at a stage gives
abbrev pub GivesAt : Stage → List (List ℤ) → State → Token → State → Result (Unit {0}) Refusal → Type 0
GivesAt stage sets old t new result = Answers (step_at (length sets) old stage t) (IsAllowed sets (around old) t) t new result

-- what reading a token gives
abbrev pub Gives : List (List ℤ) → State → Token → State → Result (Unit {0}) Refusal → Type 0
Gives sets old t new result = GivesAt old.stage sets old t new result

-- the fault of a text whose token at this byte is not read
abbrev pub fault_at : Refusal → ℕ → RegexFault
fault_at refusals.Syntax at = faults.Syntax at
fault_at refusals.Number at = faults.Number at
fault_at refusals.Depth at = faults.Depth at
fault_at refusals.Memory at = faults.Memory

-- the symbols of a text that may end here
abbrev pub Ends : Option (List PostfixSymbol) → Option (Vec PostfixSymbol Global) → Type 0
Ends o None = o ≡ None
Ends o (Some symbols) = o ≡ Some symbols.items

-- the symbols of a text over sets
pub record AreSymbolsOf (sets : List (List ℤ)) (text : List ℕ) (symbols : List PostfixSymbol) : Type 0 where
  pub postfix : IsPostfix symbols
  pub letters : All (IsOver sets) symbols
  pub text_of : IsTextOf sets text (record { sets = sets; tree = tree_of symbols })

-- what reading a text over sets gives
abbrev pub Reads : List (List ℤ) → List ℕ → Result (Vec PostfixSymbol Global) RegexFault → Type 0
Reads sets text (Ok symbols) = AreSymbolsOf sets text symbols.items
Reads sets text (Err fault) = Parses sets text (Err fault)
