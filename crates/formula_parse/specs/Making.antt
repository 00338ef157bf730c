-- Ways of making trees: a function for each case of the grammar.
use Rattle.std.specs.Prelude.{ℕ, List}
use Rattle.formula_parse.specs.Tokens.{Name, Relation, Connective, Sign, Letter}
use Rattle.formula_parse.specs.Trees.{Names}

-- a quantifier, with the variables before the last
pub data Binding : Type 0 where
  some : Names → Binding
  every : Names → Binding
  infinite : Binding

-- what is made of each part of a formula
pub record Kinds : Type 1 where
  pub Factor : Type 0
  pub Factors : Type 0
  pub Prod : Type 0
  pub Addends : Type 0
  pub Term : Type 0
  pub Terms : Type 0
  pub Index : Type 0
  pub Letter : Type 0
  pub Core : Type 0
  pub Closed : Type 0
  pub Operands : Type 0
  pub Chains : Type 0
  pub Implications : Type 0
  pub Last : Type 0
  pub Formula : Type 0

pub record Making (K : Kinds) : Type 0 where
  -- factor := VAR | NUM | "(" term ")"
  pub variable : Name → K.Factor
  pub numeral : ℕ → K.Factor
  pub in_parens : K.Term → K.Factor
  -- prod := factor { "*" factor | "/" NUM }: what comes before a factor is nothing, or a product with the byte of the `*` after it
  pub no_factors : K.Factors
  pub factors : K.Prod → ℕ → K.Factors
  pub prod : K.Factors → K.Factor → K.Prod
  -- the numeral is one more
  pub divided : K.Prod → ℕ → K.Prod
  -- term := prod { ("+" | "-") prod }: the products before the last, each with its sign
  pub no_addends : K.Addends
  pub addends : K.Addends → K.Prod → Sign → K.Addends
  pub term : K.Addends → K.Prod → K.Term
  -- the terms of an index or a call, before the last
  pub no_terms : K.Terms
  pub terms : K.Terms → K.Term → K.Terms
  pub index : Name → K.Terms → K.Term → K.Index
  pub letter : Letter → K.Letter
  -- atoms, with the system at their place
  pub compare : Name → K.Term → Relation → K.Term → K.Core
  pub words : Name → K.Index → Relation → K.Index → K.Core
  pub word_letter : Name → K.Index → Relation → K.Letter → K.Core
  pub letter_word : Name → K.Letter → Relation → K.Index → K.Core
  pub call_none : Name → Name → K.Core
  pub call : Name → Name → K.Terms → K.Term → K.Core
  -- core, and an operand with the marks before its core
  pub not_closed : K.Closed → K.Core
  pub grouped : K.Formula → K.Core
  pub marked : Names → K.Core → K.Closed
  -- chain, imp, formula: what comes before the last operand
  pub no_operands : K.Operands
  pub operands : K.Operands → K.Closed → Connective → ℕ → K.Operands
  pub no_chains : K.Chains
  pub chains : K.Chains → K.Operands → K.Closed → ℕ → K.Chains
  pub no_implications : K.Implications
  pub implications : K.Implications → K.Chains → K.Operands → K.Closed → K.Implications
  -- the last operand: closed, or a quantifier's formula with the marks and `~` before it
  pub ends : K.Closed → K.Last
  pub quantified : List Names → Names → Binding → Name → K.Formula → K.Last
  pub formula : K.Implications → K.Chains → K.Operands → K.Last → K.Formula
