-- What a verdict says, where names mean what they were bound to.
use Rattle.std.specs.Prelude.{◌≡◌, ℕ, Bool, List, ◌++◌, IfSome, Ok}
use Rattle.wal_outside.specs.Files.{Files}
use Rattle.wal_outside.specs.Views.{StoreView}
use Rattle.macro_expand.specs.Expansion.{expansion}
use Rattle.macro_loading.specs.MacroFiles.{macros_of}
use Rattle.formula_parse.specs.Trees.{Formula}
use Rattle.formula_truth.specs.Truth.{Meanings}
use Rattle.formula_resolve.specs.Mentions.{mentions}
use Rattle.formula_resolve.specs.FirstMentions.{first_files}
use Rattle.definitions.specs.Trees.{Ledger, custom_of, bindings_of}
use Rattle.definitions.specs.TreeMeanings.{meanings_in}
use Rattle.definitions.specs.Texts.{Stores}
use Rattle.session_cli.specs.Commands.{Commands}
use Rattle.headlines.specs.Sentences.{HasInQuotes, IsReadAs, IsFormulaCommand, IsVerdict, truth_line}

-- The command is an `eval` or a `def` of the formula: its text in quotes, with the calls of macros replaced by the macros among the files, is
-- read as the formula.
pub record IsOfFormula (files : Files) (command : List ℕ) (formula : Formula) : Type 0 where
  pub word : IsFormulaCommand command
  pub body : List ℕ
  pub in_quotes : HasInQuotes command body
  pub text : List ℕ
  pub expanded : expansion (macros_of files) body ≡ Ok text
  pub read : IsReadAs text formula

-- what the names of a formula mean: what is under them in the ledger
abbrev pub meanings_now : Ledger → Formula → Meanings
meanings_now ledger formula = meanings_in (custom_of ledger) (bindings_of ledger (first_files (mentions formula)))

-- by this ledger the verdict on the command's formula is this
pub record SaysTruth (ledger : Ledger) (command : List ℕ) (truth : Bool) : Type 0 where
  pub files : Files
  pub stored : Stores ledger files
  pub formula : Formula
  pub is_of : IsOfFormula files command formula
  pub verdict : IsVerdict truth (meanings_now ledger formula) formula

-- An `eval` or a `def` that is accepted and prints a verdict, after the lines of its steps or after none, says truth. Where the store reports its files,
-- names mean what the ledger has of them.
abbrev pub Verdicts : Type 0
Verdicts = (limit : ℕ) (ledger : Ledger) (old new : StoreView) (command : List ℕ) (shown : Bool) (lines : List ℕ) (truth : Bool)
    → IsFormulaCommand command → Commands limit ledger old command shown (Ok (lines ++ truth_line truth)) new
    → (known : Ledger) × IfSome old.files (λ (files : Files). known ≡ ledger) × SaysTruth known command truth
