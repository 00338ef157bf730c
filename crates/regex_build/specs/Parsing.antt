-- What parsing a text gives: its expression, or the first token that is at fault.
use Rattle.std.specs.Prelude.{◌≡◌, ◌≢◌, ℕ, ◌+◌, ◌<◌, ℤ, List, length, take, slice_index_or, Result, Ok, Err, ⊤}
use Rattle.text_grammar.specs.Faults.{Begins, BreaksAt}
use Rattle.regex_build.specs.declared.fault.RegexFault.{RegexFault}
use Rattle.regex_build.specs.declared.fault.RegexFault.TheVariants.{Syntax, Number, Depth, Memory}
use Rattle.regex_build.specs.Tokens.{Token, opening, digit, number, other}
use Rattle.regex_build.specs.Spots.{tokens, byte_of}
use Rattle.regex_build.specs.Patterns.{Pattern}
use Rattle.regex_build.specs.Grammar.{Derives}
use Rattle.regex_build.specs.Limits.{nothing, after_all, IsAllowed, AreAllowed}

abbrev pub token_at : List Token → ℕ → Token
token_at ts i = slice_index_or ts i other

-- the token is a digit or a number
abbrev pub IsNumber : Token → Type 0
IsNumber (digit d) = ⊤
IsNumber (number z) = ⊤
IsNumber _ = ⊥

abbrev pub IsOpening : Token → Type 0
IsOpening opening = ⊤
IsOpening _ = ⊥

-- no text goes on with this token, or the text ends too early here, and the tokens before are allowed
pub record IsStuckAt (sets : List (List ℤ)) (ts : List Token) (i : ℕ) : Type 0 where
  pub breaks : BreaksAt (Derives (length sets)) ts i
  pub before : AreAllowed sets nothing (take i ts)

-- some text goes on with this token, it is not allowed, and those before it are
pub record IsRefusedAt (sets : List (List ℤ)) (ts : List Token) (i : ℕ) : Type 0 where
  pub within : i < length ts
  pub begins : Begins (Derives (length sets)) (take (i + 1) ts)
  pub before : AreAllowed sets nothing (take i ts)
  pub refused : IsAllowed sets (after_all nothing (take i ts)) (token_at ts i) → ⊥

-- the text derives from the pattern's expression, whose letters have a member of each set
pub record IsTextOf (sets : List (List ℤ)) (text : List ℕ) (pattern : Pattern) : Type 0 where
  pub derives : Derives (length sets) (tokens text) pattern.tree
  pub allowed : AreAllowed sets nothing (tokens text)
  pub sets_are : pattern.sets ≡ sets

-- what parsing a text over sets gives
abbrev pub Parses : List (List ℤ) → List ℕ → Result Pattern RegexFault → Type 0
Parses sets text (Ok pattern) = IsTextOf sets text pattern
Parses sets text (Err (Syntax at)) = (i : ℕ) × (at ≡ byte_of text i) × IsStuckAt sets (tokens text) i
Parses sets text (Err (Number at)) = (i : ℕ) × (at ≡ byte_of text i) × IsRefusedAt sets (tokens text) i × IsNumber (token_at (tokens text) i)
Parses sets text (Err (Depth at)) = (i : ℕ) × (at ≡ byte_of text i) × IsRefusedAt sets (tokens text) i × IsOpening (token_at (tokens text) i)
Parses sets text (Err Memory) = ⊤

-- parsing a text over sets has one answer, apart from out of memory
abbrev pub OneAnswer : Type 0
OneAnswer = (sets : List (List ℤ)) (text : List ℕ) (result other : Result Pattern RegexFault) → Parses sets text result → Parses sets text other → result ≢ Err Memory → other ≢ Err Memory → result ≡ other
