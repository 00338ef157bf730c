-- The grammar: which tokens have which tree, and where tokens first break it.
use Rattle.std.specs.Prelude.{◌≡◌, ℕ, ◌<◌, List, [], ◌∷◌, ◌++◌, map, None, Some}
use Rattle.std.specs.List.{AllByRecursion}
use Rattle.formula_parse.specs.Tokens.{Token, Placed, token_of, nesting_of, end}
use Rattle.formula_parse.specs.Trees as trees
use Rattle.formula_parse.specs.Limits.{IsInRange, IsAllowed, fault_byte}
use Rattle.formula_parse.specs.Flaws.{Flaw}
use Rattle.formula_parse.specs.Formulas.{WrittenFormula, FormulaTakes, derived_tokens}
use Rattle.formula_parse.specs.FormulaTrees.{tree_of}
use Rattle.formula_parse.specs.FormulaFlaws.{formula_flaw}

-- tokens that a formula derives, within the limits
pub record Derives (ts : List Token) (text : WrittenFormula) : Type 0 where
  pub derived_is : map token_of (derived_tokens text) ≡ ts
  pub takes_all : FormulaTakes text end
  pub allowed : AllByRecursion IsAllowed (derived_tokens text)

-- the grammar: tokens and their tree
pub record Reads (ts : List Token) (tree : trees.Formula) : Type 0 where
  pub text : WrittenFormula
  pub derives : Derives ts text
  pub flawless : formula_flaw None text ≡ None
  pub tree_is : tree_of text ≡ tree

-- tokens of the grammar, and their least flaw
pub record IsFlawed (ts : List Token) (flaw : Flaw) : Type 0 where
  pub text : WrittenFormula
  pub derives : Derives ts text
  pub flaw_is : formula_flaw None text ≡ Some flaw

-- a text goes on after what was read of it
pub record GoesOn (text : WrittenFormula) (read more : List Placed) : Type 0 where
  pub derived_is : derived_tokens text ≡ read ++ more
  pub takes_all : FormulaTakes text end

-- tokens that begin a text and keep the limits
pub record Begins (prefix : List Token) : Type 0 where
  pub text : WrittenFormula
  pub read : List Placed
  pub more : List Placed
  pub goes_on : GoesOn text read more
  pub tokens_are : map token_of read ≡ prefix
  pub allowed : AllByRecursion IsAllowed read

-- the first token at which no text goes on
pub record Breaks (prefix : List Token) (token : Token) : Type 0 where
  pub before : Begins prefix
  pub there : (text : WrittenFormula) (read more : List Placed) → GoesOn text read more → map token_of read ≡ prefix ++ token ∷ [] → ⊥

-- a text goes on at a token, placed so, and all before it keep the limits
pub record Reaches (prefix : List Token) (token : Token) (reached : Placed) : Type 0 where
  pub text : WrittenFormula
  pub read : List Placed
  pub more : List Placed
  pub goes_on : GoesOn text read (reached ∷ more)
  pub tokens_are : map token_of read ≡ prefix
  pub token_is : token_of reached ≡ token
  pub allowed : AllByRecursion IsAllowed read

-- the first token that passes a limit is a number
pub record IsNumber (prefix : List Token) (token : Token) (byte at : ℕ) : Type 0 where
  pub reached : Placed
  pub reaches : Reaches prefix token reached
  pub out : IsInRange reached → ⊥
  pub byte_is : fault_byte reached byte ≡ at

-- the first token that passes a limit opens nesting 129
pub record IsDepth (prefix : List Token) (token : Token) : Type 0 where
  pub reached : Placed
  pub reaches : Reaches prefix token reached
  pub deep : 128 < nesting_of reached
