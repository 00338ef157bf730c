-- Laws of rules.
use Rattle.std.specs.Prelude.{◌≡◌, ◌≢◌, ℕ, List, Result, Err}
use Rattle.std.specs.List.Sorted.{IsPermutation}
use Rattle.morph_words.specs.declared.fault.RulesFault.{RulesFault}
use Rattle.morph_words.specs.declared.fault.RulesFault.TheVariants.{Memory}
use Rattle.morph_words.specs.declared.lexeme.Lexeme.{Lexeme}
use Rattle.morph_words.specs.Lexemes.{lexemes}
use Rattle.morph_words.specs.Rules.{Rules, IsMorphism}
use Rattle.morph_words.specs.Grammar.{rules_of, Derives}
use Rattle.morph_words.specs.Faults.{Parses}
use Rattle.morph_words.specs.Printed.{printed}

-- reading a text has one answer, apart from out of memory
abbrev pub OneAnswer : Type 0
OneAnswer = (text : List ℕ) (result other : Result Rules RulesFault) → Parses text result → Parses text other → result ≢ Err Memory → other ≢ Err Memory → result ≡ other

-- the printed text of a morphism derives from it
abbrev pub PrintedDerives : Type 0
PrintedDerives = (rules : Rules) → IsMorphism rules → Derives (lexemes (printed rules)) rules

-- the rules that a text has are a morphism
abbrev pub DerivesMorphisms : Type 0
DerivesMorphisms = (text : List ℕ) (rules : Rules) → Derives (lexemes text) rules → IsMorphism rules

-- texts with the same rules, in whatever order they are, have one morphism
abbrev pub OrderIsFree : Type 0
OrderIsFree = (ts us : List Lexeme) (rules others : Rules) (h : Derives ts rules) (k : Derives us others) → IsPermutation (rules_of h.text.rules) (rules_of k.text.rules) → rules ≡ others
