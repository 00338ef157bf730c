-- Signs: texts that are tokens, whatever follows them.
use Rattle.std.specs.Prelude.{ℕ, eqb, if◌then◌else◌, List, [], ◌∷◌, length}
use Rattle.std.specs.List.{starts_with}
use Rattle.text_grammar.specs.Spots.{Lexeme}

-- the first sign of a table with which bytes begin, or another token of one byte
abbrev pub sign_of : {T : Type 0} → List (List ℕ × T) → T → List ℕ → Lexeme T
sign_of [] other bytes = record { token = other; len = 1 }
sign_of (sign ∷ signs) other bytes = if starts_with eqb bytes sign.0 then record { token = sign.1; len = length sign.0 } else sign_of signs other bytes
