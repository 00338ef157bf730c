-- The systems of numeration that a formula uses.
use Rattle.std.specs.Prelude.{◌≡◌, ◌⊎◌, ℕ, Bool, List, Some, Ok}
use Rattle.std.specs.List.{AllByRecursion}
use Rattle.wal_outside.specs.Files.{Files}
use Rattle.wal_outside.specs.Views.{StoreView}
use Rattle.dfa_loading.specs.Headers.{headers_of}
use Rattle.dfa_loading.specs.declared.loaded.Loaded.{Loaded}
use Rattle.digit_tuple.specs.declared.direction.Direction.{Direction}
use Rattle.numeration.specs.Systems.{System}
use Rattle.system_files.specs.SystemFiles.{Custom}
use Rattle.system_files.specs.UserSystems.{IsUserSystem}
use Rattle.system_names.specs.Names.{IsBuiltInName}
use Rattle.formula_parse.specs.Trees.{Formula}
use Rattle.formula_resolve.specs.FirstMentions.{first_files, first_systems}
use Rattle.formula_resolve.specs.Mentions.{mentions}
use Rattle.definitions.specs.Trees.{Ledger, custom_of}
use Rattle.session_cli.specs.Commands.{Commands}
use Rattle.command_parts.specs.FileChecks.{FilesAnswers}
use Rattle.headlines.specs.Sentences.{IsFormulaCommand}
use Rattle.headlines.specs.Verdicts.{IsOfFormula}

-- The name is that of a built-in system, or its files define a numeration system: leading zeros keep its words, there are words for all numbers, and
-- the adder's file holds of three numbers if and only if the third is the sum of the others.
abbrev pub IsUsedSystem : Custom → List ℕ → Type 0
IsUsedSystem custom name = IsBuiltInName name ⊎ ((direction : Direction) × (s : System) × IsUserSystem custom name direction s)

-- the command's formula, and each system that it or the files of its names mention
pub record UsesSystems (ledger : Ledger) (command : List ℕ) : Type 0 where
  pub files : Files
  pub formula : Formula
  pub is_of : IsOfFormula files command formula
  pub tables : List Loaded
  pub loaded : FilesAnswers ledger (first_files (mentions formula)) (Ok tables)
  pub systems : AllByRecursion (IsUsedSystem (custom_of ledger)) (first_systems (headers_of tables) (mentions formula))

-- an `eval` or a `def` that is accepted uses systems alone that are systems
abbrev pub OwnSystems : Type 0
OwnSystems = (limit : ℕ) (ledger : Ledger) (files : Files) (old new : StoreView) (command : List ℕ) (shown : Bool) (printed : List ℕ)
    → IsFormulaCommand command → old.files ≡ Some files → Commands limit ledger old command shown (Ok printed) new → UsesSystems ledger command
