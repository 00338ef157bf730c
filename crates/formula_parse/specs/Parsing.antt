-- What parsing gives.
use Rattle.std.specs.Prelude.{◌≡◌, ℕ, List, ◌∷◌, ◌++◌, Result, Ok, Err, ⊤}
use Rattle.formula_parse.specs.Flaws.{mixed_chain, not_linear}
use Rattle.formula_parse.specs.Grammar.{Reads, IsFlawed, Breaks, IsNumber, IsDepth}
use Rattle.text_grammar.specs.Spots.{Spot, tokens}
use Rattle.formula_parse.specs.Spots.{spots}
use Rattle.formula_parse.specs.Tokens.{Token}
use Rattle.formula_parse.specs.Views.{formula_view}
use Rattle.formula_parse.specs.declared.tree.Formula.{Formula}
use Rattle.formula_parse.specs.declared.fault.ParseFault.{ParseFault}
use Rattle.formula_parse.specs.declared.fault.ParseFault.TheVariants as faults

-- one of the tokens of a text
pub record Cut (text : List ℕ) : Type 0 where
  pub prefix : List (Spot Token)
  pub spot : Spot Token
  pub rest : List (Spot Token)
  pub is : spots text ≡ prefix ++ spot ∷ rest

-- the first token at which no text of the grammar goes on begins at a byte
pub record IsSyntaxAt (text : List ℕ) (at : ℕ) : Type 0 where
  pub cut : Cut text
  pub breaks : Breaks (tokens cut.prefix) cut.spot.token
  pub at_is : cut.spot.at ≡ at

-- the first token that passes a limit is a number, reported at a byte
pub record IsNumberAt (text : List ℕ) (at : ℕ) : Type 0 where
  pub cut : Cut text
  pub passes : IsNumber (tokens cut.prefix) cut.spot.token cut.spot.at at

-- the first token that passes a limit opens nesting 129, and begins at a byte
pub record IsDepthAt (text : List ℕ) (at : ℕ) : Type 0 where
  pub cut : Cut text
  pub passes : IsDepth (tokens cut.prefix) cut.spot.token
  pub at_is : cut.spot.at ≡ at

abbrev pub Parses : List ℕ → Result Formula ParseFault → Type 0
Parses text (Ok f) = Reads (tokens (spots text)) (formula_view f)
Parses text (Err (faults.Syntax at)) = IsSyntaxAt text at
Parses text (Err (faults.Number at)) = IsNumberAt text at
Parses text (Err (faults.Depth at)) = IsDepthAt text at
Parses text (Err (faults.MixedChain at)) = IsFlawed (tokens (spots text)) (mixed_chain at)
Parses text (Err (faults.NotLinear at)) = IsFlawed (tokens (spots text)) (not_linear at)
Parses text (Err faults.Memory) = ⊤
