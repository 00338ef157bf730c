-- What reading a text gives: its rules, or the fault at the first lexeme with which no rules go on.
use Rattle.std.specs.Prelude.{◌≡◌, ℕ, ◌+◌, Bool, true, false, List, [], ◌∷◌, ◌++◌, length, take, slice_get, ℤ, Option, None, Some, Result, Ok, Err, ⊤}
use Rattle.std.specs.Bool.{MatchBool}
use Rattle.text_grammar.specs.Faults.{Begins, BreaksAt}
use Rattle.morph_words.specs.declared.fault.RulesFault.{RulesFault}
use Rattle.morph_words.specs.declared.fault.RulesFault.TheVariants.{Syntax, Number, Memory}
use Rattle.morph_words.specs.declared.lexeme.Lexeme.{Lexeme}
use Rattle.morph_words.specs.declared.lexeme.Lexeme.TheVariants.{Letter, Long, Broken}
use Rattle.text_grammar.specs.Spots.{Spot}
use Rattle.morph_words.specs.Lexemes.{spots, lexemes}
use Rattle.morph_words.specs.Rules.{Rules}
use Rattle.morph_words.specs.Grammar.{Derives}

-- The fault of a lexeme that should be a letter, at its byte and before the byte after it: a number that is too long is determined by its
-- first byte, and a bracket that breaks off by the first byte with which no letter goes on.
abbrev pub no_letter : Lexeme → ℕ → ℕ → RulesFault
no_letter Long at after = Number (at + 1)
no_letter Broken at after = Syntax after
no_letter _ at after = Syntax at

-- the fault of a lexeme with which no rules go on, where a letter may be or may not
abbrev pub fault_of : Bool → Spot Lexeme → RulesFault
fault_of true s = no_letter s.token s.at s.after
fault_of false s = Syntax s.at

-- a letter may come after these lexemes
abbrev pub MayBeLetter : List Lexeme → Type 0
MayBeLetter before = (letter : ℤ) × Begins Derives (before ++ Letter letter ∷ [])

-- the fault at a lexeme of a text, the lexemes counted from 0; after the last it is at the text's length
abbrev pub fault_at : List ℕ → Bool → Option (Spot Lexeme) → RulesFault
fault_at text at_letter None = Syntax (length text)
fault_at text at_letter (Some s) = fault_of at_letter s

-- this is the fault of a text: it is at the first lexeme with which no rules go on, or at the text's length
pub record IsFault (text : List ℕ) (fault : RulesFault) : Type 0 where
  pub count : ℕ
  pub breaks : BreaksAt Derives (lexemes text) count
  pub at_letter : Bool
  pub may_be : MatchBool at_letter (MayBeLetter (take count (lexemes text))) (MayBeLetter (take count (lexemes text)) → ⊥)
  pub fault_is : fault ≡ fault_at text at_letter (slice_get (spots text) count)

-- what reading a text gives
abbrev pub Parses : List ℕ → Result Rules RulesFault → Type 0
Parses text (Ok rules) = Derives (lexemes text) rules
Parses text (Err Memory) = ⊤
Parses text (Err (Syntax at)) = IsFault text (Syntax at)
Parses text (Err (Number at)) = IsFault text (Number at)
