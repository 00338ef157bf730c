-- The tokens of a formula.
use Rattle.std.specs.Prelude.{ℕ, List, Bool}

abbrev pub Name : Type 0
Name = List ℕ

pub data Relation : Type 0 where
  equal : Relation
  unequal : Relation
  less : Relation
  greater : Relation
  at_most : Relation
  at_least : Relation

pub data Quantifier : Type 0 where
  some : Quantifier
  every : Quantifier
  infinite : Quantifier

-- the connectives of a chain
pub data Connective : Type 0 where
  and : Connective
  or : Connective
  xor : Connective

pub data Sign : Type 0 where
  plus : Sign
  minus : Sign

-- A token. Those at which a chain may be mixed or a product not linear, and the `@`, keep their byte.
pub data Token : Type 0 where
  -- a variable or a word
  name : Name → Token
  -- a numeral; 2 ^ 64 means each that is no less
  number : ℕ → Token
  -- a system after `?`, a name after `$`
  system : Name → Token
  called : Name → Token
  mark : Token
  call_sign : Token
  negation : Token
  quantifier : Quantifier → Token
  comma : Token
  opening : Token
  closing : Token
  bracket : Token
  unbracket : Token
  letter_sign : ℕ → Token
  sign : Sign → Token
  times : ℕ → Token
  slash : Token
  relation : Relation → Token
  connective : Connective → ℕ → Token
  implies : ℕ → Token
  iff : Token
  -- a byte that begins none
  other : Token
  -- the end of the text
  end : Token

-- `@`, its byte, whether a `-` follows, and the numeral
pub record Letter : Type 0 where
  pub at : ℕ
  pub negative : Bool
  pub value : ℕ

-- A token, and the nesting at which it is. What opens is within what it opens; the numeral of a letter is distinguished.
pub data Placed : Type 0 where
  here : Token → ℕ → Placed
  value_of : Letter → ℕ → Placed

abbrev pub token_of : Placed → Token
token_of (here t d) = t
token_of (value_of l d) = number l.value

abbrev pub nesting_of : Placed → ℕ
nesting_of (here t d) = d
nesting_of (value_of l d) = d
