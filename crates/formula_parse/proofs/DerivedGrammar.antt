-- The grammar over derivations: which tokens have which tree, and where tokens first break it.
use Rattle.std.specs.Prelude.{◌≡◌, List, [], ◌∷◌, ◌++◌, map}
use Rattle.formula_parse.specs.Tokens.{Token, Placed, token_of}
use Rattle.formula_parse.specs.Trees.{Formula}
use Rattle.std.specs.List.{AllByRecursion}
use Rattle.formula_parse.specs.Limits.{IsAllowed}
use Rattle.formula_parse.specs.Made.{trees}
use Rattle.formula_parse.specs.FormulaTrees.{default_system}
use Rattle.formula_parse.proofs.Derivations as derivations
use Rattle.formula_parse.proofs.Derivations.{derived_tokens}
use Rattle.formula_parse.proofs.Systems.{formula_of}

abbrev pub tree_of : derivations.Formula → Formula
tree_of f = formula_of trees default_system f

-- tokens that a derivation derives, within the limits
pub record Derives (ts : List Token) (text : derivations.Formula) : Type 0 where
  pub derived_is : map token_of (derived_tokens text) ≡ ts
  pub allowed : AllByRecursion IsAllowed (derived_tokens text)

-- a derivation goes on after what was read of it
pub record GoesOn (text : derivations.Formula) (read more : List Placed) : Type 0 where
  pub derived_is : derived_tokens text ≡ read ++ more

-- tokens that begin a text and keep the limits
pub record Begins (prefix : List Token) : Type 0 where
  pub text : derivations.Formula
  pub read : List Placed
  pub more : List Placed
  pub goes_on : GoesOn text read more
  pub tokens_are : map token_of read ≡ prefix
  pub allowed : AllByRecursion IsAllowed read

-- the first token at which no text goes on
pub record Breaks (prefix : List Token) (token : Token) : Type 0 where
  pub before : Begins prefix
  pub there : (text : derivations.Formula) (read more : List Placed) → GoesOn text read more → map token_of read ≡ prefix ++ token ∷ [] → ⊥

-- a text goes on at a token, placed so, and all before it keep the limits
pub record Reaches (prefix : List Token) (token : Token) (reached : Placed) : Type 0 where
  pub text : derivations.Formula
  pub read : List Placed
  pub more : List Placed
  pub goes_on : GoesOn text read (reached ∷ more)
  pub tokens_are : map token_of read ≡ prefix
  pub token_is : token_of reached ≡ token
  pub allowed : AllByRecursion IsAllowed read
