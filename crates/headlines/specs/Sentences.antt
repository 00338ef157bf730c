-- The formula of a command: what its text in quotes says by the grammar.
use Rattle.std.specs.Prelude.{◌≡◌, ◌≢◌, ◌⊎◌, ℕ, Bool, true, false, List, ◌∷◌, ◌++◌, map, codes}
use Rattle.std.specs.List.{AllByRecursion}
use Rattle.text_grammar.specs.Spots.{tokens}
use Rattle.command_head.specs.Parts.{first_word_of}
use Rattle.formula_parse.specs.Tokens.{token_of, end}
use Rattle.formula_parse.specs.Formulas.{WrittenFormula, FormulaTakes, derived_tokens}
use Rattle.formula_parse.specs.FormulaTrees.{tree_of}
use Rattle.formula_parse.specs.Spots.{spots}
use Rattle.formula_parse.specs.Trees.{Formula}
use Rattle.formula_truth.specs.Assignments.{Assignment}
use Rattle.formula_truth.specs.Truth.{Meanings, Holds}

-- no byte of the text is this one
abbrev pub HasNo : ℕ → List ℕ → Type 0
HasNo byte text = AllByRecursion (λ b. b ≢ byte) text

-- The command has two quotes, and this is between them. A quote is byte 34.
pub record HasInQuotes (command body : List ℕ) : Type 0 where
  pub before : List ℕ
  pub after : List ℕ
  pub split : command ≡ before ++ 34 ∷ (body ++ 34 ∷ after)
  pub none_before : HasNo 34 before
  pub none_inside : HasNo 34 body
  pub none_after : HasNo 34 after

-- the grammar derives the tokens of the text, and this is the tree
pub record IsReadAs (text : List ℕ) (formula : Formula) : Type 0 where
  pub written : WrittenFormula
  pub tokens_are : map token_of (derived_tokens written) ≡ tokens (spots text)
  pub takes_all : FormulaTakes written end
  pub tree_is : tree_of written ≡ formula

-- the command is an `eval` or a `def`
abbrev pub IsFormulaCommand : List ℕ → Type 0
IsFormulaCommand command = (first_word_of command ≡ codes "eval") ⊎ (first_word_of command ≡ codes "def")

-- the formula is true whatever numbers its variables have, or false whatever they have
abbrev pub IsVerdict : Bool → Meanings → Formula → Type 0
IsVerdict true meanings formula = (a : Assignment) → Holds meanings formula a
IsVerdict false meanings formula = (a : Assignment) → ¬ Holds meanings formula a

-- the line of a verdict
abbrev pub truth_line : Bool → List ℕ
truth_line true = codes "TRUE\n"
truth_line false = codes "FALSE\n"
