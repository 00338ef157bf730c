-- What the code does for calls of macros.
use Rattle.std.specs.Prelude.{◌≡◌, ◌≢◌, ℕ, List, Result, MatchResult, Ok}
use Rattle.std.specs.declared.alloc.Global.{Global}
use Rattle.std.specs.declared.vec.Vec.{Vec}
use Rattle.wal_outside.specs.Files.{Files}
use Rattle.wal_outside.specs.Places.{Place}
use Rattle.wal_outside.specs.declared.folder.Folder.{Folder}
use Rattle.wal_outside.specs.declared.folder.Folder.TheVariants.{Macros}
use Rattle.macro_expand.specs.Expansion.{expansion}
use Rattle.macro_loading.specs.MacroFiles as macros
use Rattle.macro_loading.specs.MacroFiles.{macros_of}
use Rattle.definitions.specs.Trees.{Ledger, custom_of}
use Rattle.definitions.specs.Texts.{Stores}
use Rattle.command_parts.specs.declared.fault.Fault.{Fault}
use Rattle.command_parts.specs.declared.file_change.Made.{Made}
use Rattle.command_parts.specs.declared.step_options.StepOptions.{StepOptions}
use Rattle.formula_commands.specs.FormulaOutcomes.{after_text}
use Rattle.command_parts.specs.FileChanges.{Makes}
use Rattle.command_parts.specs.FormulaFaults.{fault_of_expansion}
use Rattle.macro_loading.specs.declared.fault.ExpansionFault.{ExpansionFault}

-- why a text is not expanded by some files
abbrev pub IsUnexpanded : Files → List ℕ → Fault → Type 0
IsUnexpanded files body fault = (own : ExpansionFault) × (fault_of_expansion own ≡ fault) × macros.Fails files body own

-- the expansion by some files, or why there is none
abbrev pub ExpandsTo : List ℕ → Files → Result (Vec ℕ Global) Fault → Type 0
ExpandsTo body files result = MatchResult result (λ text. expansion (macros_of files) body ≡ Ok text.items) (IsUnexpanded files body)

-- the files are the same but for the macros among them
abbrev pub SameButMacros : Files → Files → Type 0
SameButMacros files others = (folder : Folder) (name : List ℕ) → folder ≢ Macros → files folder name ≡ others folder name

-- by files that are these, whatever macros are among them, this is what the checks after the expansion make
abbrev pub MakesOfText : StepOptions → List ℕ → Files → Result Made Fault → Type 0
MakesOfText options text found result = (ledger : Ledger) (files : Files) (place : Place) → Stores ledger files → SameButMacros files found → Makes (custom_of ledger) (after_text options.limit ledger place text) options.shown result
