-- The faults that a text of the grammar may still have: chains that mix connectives, and products of two unknowns. The one at the least byte is kept.
use Rattle.std.specs.Prelude.{ℕ, Bool, true, false, not, ◌&&◌, ◌||◌, nat_lt, Option, None, Some}
use Rattle.formula_parse.specs.Tokens.{Connective, and, or, xor}

pub data Flaw : Type 0 where
  mixed_chain : ℕ → Flaw
  not_linear : ℕ → Flaw

abbrev pub byte_of : Flaw → ℕ
byte_of (mixed_chain b) = b
byte_of (not_linear b) = b

abbrev pub earlier : Bool → Flaw → Flaw → Flaw
earlier true f g = g
earlier false f g = f

-- the least so far, where one more flaw is met
abbrev pub noted : Flaw → Option Flaw → Option Flaw
noted g None = Some g
noted g (Some f) = Some (earlier (nat_lt (byte_of g) (byte_of f)) f g)

abbrev pub noted_if : Bool → Flaw → Option Flaw → Option Flaw
noted_if true g w = noted g w
noted_if false g w = w

-- what comes before a factor in its term
pub record Product : Type 0 where
  -- nothing does
  pub lone : Bool
  -- a factor of its product that is no numeral does, or a quotient
  pub unknown : Bool
  -- the byte of the `*` before it
  pub star : ℕ

abbrev pub product_start : Bool → Product
product_start l = record { lone = l; unknown = false; star = 0 }

-- after a factor, which is a numeral or is not, and a `*`
abbrev pub product_next : Product → Bool → ℕ → Product
product_next p q b = record { lone = false; unknown = p.unknown || not q; star = b }

-- a factor: the second of its product that is no numeral is a flaw, at the `*` before it
abbrev pub noted_factor : Product → Bool → Option Flaw → Option Flaw
noted_factor p q w = noted_if (p.unknown && not q) (not_linear p.star) w

-- which of `|` and `^` have come in a chain
pub record Came : Type 0 where
  pub or_came : Bool
  pub xor_came : Bool

abbrev pub none_came : Came
none_came = record { or_came = false; xor_came = false }

abbrev pub came_next : Connective → Came → Came
came_next and c = c
came_next or c = record { or_came = true; xor_came = c.xor_came }
came_next xor c = record { or_came = c.or_came; xor_came = true }

-- `&` after `|` or `^`, `|` after `^`, `^` after `|`
abbrev pub mixes : Connective → Came → Bool
mixes and c = c.or_came || c.xor_came
mixes or c = c.xor_came
mixes xor c = c.or_came
