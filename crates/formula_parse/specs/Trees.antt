-- The trees of formulas.
use Rattle.std.specs.Prelude.{ℕ, ℤ}
use Rattle.formula_parse.specs.Tokens.{Name, Relation, Quantifier, Sign}

-- names in the order in which they are; a list grows at its end
pub data Names : Type 0 where
  no_names : Names
  names : Names → Name → Names

mutual
  -- a sum is its addends, each with the sign after it, and the last
  pub data Term : Type 0 where
    variable : Name → Term
    numeral : ℕ → Term
    product : Factors → Term
    sum : Addends → Term → Term

  pub data Factors : Type 0 where
    no_factors : Factors
    factors : Factors → Factor → Factors

  -- what a product is multiplied or divided by; a divisor divides all that is before it
  pub data Factor : Type 0 where
    times : Term → Factor
    divided : ℕ → Factor

  pub data Addends : Type 0 where
    no_addends : Addends
    addends : Addends → Term → Sign → Addends

-- the places of a word, and the arguments of a call
pub data Terms : Type 0 where
  no_terms : Terms
  terms : Terms → Term → Terms

-- a word at places
pub record Index : Type 0 where
  pub word : Name
  pub places : Terms

pub data Fact : Type 0 where
  compare : Term → Relation → Term → Fact
  words : Index → Relation → Index → Fact
  word_letter : Index → Relation → ℤ → Fact
  letter_word : ℤ → Relation → Index → Fact
  call : Name → Terms → Fact

-- a fact in the system at its place
pub record Atom : Type 0 where
  pub system : Name
  pub fact : Fact

pub data Joint : Type 0 where
  and : Joint
  or : Joint
  xor : Joint
  implies : Joint
  iff : Joint

mutual
  -- a chain is its operands, each with the connective after it, and the last; read from the left
  pub data Formula : Type 0 where
    atom : Atom → Formula
    negated : Formula → Formula
    chain : Operands → Formula → Formula
    quantified : Quantifier → Names → Formula → Formula
    -- `?` marks, and the operand that they come before
    marked : Names → Formula → Formula

  pub data Operands : Type 0 where
    no_operands : Operands
    operands : Operands → Formula → Joint → Operands
