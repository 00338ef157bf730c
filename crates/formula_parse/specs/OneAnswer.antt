-- A text has one answer.
use Rattle.std.specs.Prelude.{◌≡◌, ℕ, List, Result, Ok, Err, ⊤}
use Rattle.formula_parse.specs.Trees as trees
use Rattle.formula_parse.specs.Grammar.{Reads}
use Rattle.text_grammar.specs.Spots.{tokens}
use Rattle.formula_parse.specs.Spots.{spots}
use Rattle.formula_parse.specs.Views.{formula_view}
use Rattle.formula_parse.specs.Parsing.{Parses}
use Rattle.formula_parse.specs.declared.tree.Formula.{Formula}
use Rattle.formula_parse.specs.declared.fault.ParseFault.{ParseFault}
use Rattle.formula_parse.specs.declared.fault.ParseFault.TheVariants as faults

-- what an answer reports: a tree, or a fault with its byte
abbrev pub answer_view : Result Formula ParseFault → Result trees.Formula ParseFault
answer_view (Ok f) = Ok (formula_view f)
answer_view (Err e) = Err e

-- every answer but out of memory
abbrev pub IsOfTheText : Result Formula ParseFault → Type 0
IsOfTheText (Err faults.Memory) = ⊥
IsOfTheText _ = ⊤

-- no text has two trees, two faults, or one of each
abbrev pub OneAnswer : Type 0
OneAnswer = (text : List ℕ) (f g : Result Formula ParseFault) → IsOfTheText f → IsOfTheText g → Parses text f → Parses text g → answer_view f ≡ answer_view g

-- no text has two trees
abbrev pub OneTree : Type 0
OneTree = (text : List ℕ) (f g : trees.Formula) → Reads (tokens (spots text)) f → Reads (tokens (spots text)) g → f ≡ g
