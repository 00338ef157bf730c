-- What the code makes of the languages of a command, part by part.
use Rattle.std.specs.Prelude.{◌≡◌, ℕ, ℤ, List, None, Result}
use Rattle.wal_outside.specs.Files.{Files}
use Rattle.command_head.specs.Heads.{LanguagesHead}
use Rattle.dfa_loading.specs.Loading.{AreListedBy}
use Rattle.dfa_loading.specs.declared.loaded.Loaded.{Loaded}
use Rattle.language_steps.specs.Tables.{AreOverSets, first_not_plain}
use Rattle.definitions.specs.Texts.{Stores}
use Rattle.language_steps.specs.declared.op.LanguageOp.{LanguageOp}
use Rattle.definitions.specs.Trees.{Ledger, custom_of}
use Rattle.command_parts.specs.declared.fault.Fault.{Fault}
use Rattle.command_parts.specs.declared.file_change.Made.{Made}
use Rattle.command_parts.specs.declared.step_options.StepOptions.{StepOptions}
use Rattle.command_parts.specs.Checks.{Fails}
use Rattle.language_commands.specs.LanguageOutcomes.{after_language_tables, language_files}
use Rattle.command_parts.specs.FileChanges.{Makes}

-- all are over the same sets
pub record AreAlike (tables : List Loaded) : Type 0 where
  pub plain : first_not_plain tables ≡ None
  pub sets : List (List ℤ)
  pub over : AreOverSets sets tables

-- the tables refuse each command by this fault
abbrev pub RefusesTables : List Loaded → Fault → Type 0
RefusesTables tables fault = (limit : ℕ) (ledger : Ledger) (op : LanguageOp) (head : LanguagesHead) → Fails (after_language_tables limit ledger op head tables) fault

-- this is what the checks after the files make, where the files list the tables
abbrev pub MakesLanguage : StepOptions → LanguageOp → List (List ℕ) → List Loaded → Result Made Fault → Type 0
MakesLanguage options op names tables result = (ledger : Ledger) (files : Files) (name : List ℕ) → Stores ledger files → AreListedBy files (language_files names) tables
    → Makes (custom_of ledger) (after_language_tables options.limit ledger op (record { name = name; languages = names }) tables) options.shown result
