-- The tokens of expressions.
use Rattle.std.specs.Prelude.{ℕ, ℤ}

pub data Token : Type 0 where
  bar : Token
  star : Token
  plus : Token
  optional : Token
  dot : Token
  opening : Token
  closing : Token
  bracket : Token
  comma : Token
  unbracket : Token
  -- a digit that is in no brackets
  digit : ℕ → Token
  -- a number in brackets
  number : ℤ → Token
  -- a byte that begins none
  other : Token
