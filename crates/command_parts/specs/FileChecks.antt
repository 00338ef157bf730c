-- The files that a command names, loaded one after another.
use Rattle.std.specs.Prelude.{List, Result, Ok, Err, ◌≡◌}
use Rattle.wal_outside.specs.Files.{Files}
use Rattle.dfa_loading.specs.Loading.{AreListedBy, FirstRefuses, ReadsAt}
use Rattle.dfa_loading.specs.declared.loaded.Loaded.{Loaded}
use Rattle.formula_resolve.specs.declared.file.File.{File}
use Rattle.definitions.specs.Trees.{Ledger}
use Rattle.definitions.specs.Texts.{Stores}
use Rattle.command_parts.specs.declared.refusal.Refusal.{Refusal}
use Rattle.command_parts.specs.declared.fault.Fault.TheVariants as faults
use Rattle.command_parts.specs.Checks.{Check}
use Rattle.command_parts.specs.FormulaFaults.{fault_of_loading}
use Rattle.dfa_loading.specs.declared.fault.LoadFault.{LoadFault}

-- the tables of the files, by the texts of the ledger; or the first that is none
abbrev pub FilesAnswers : Ledger → List File → Result (List Loaded) Refusal → Type 0
FilesAnswers ledger named (Ok tables) = (files : Files) × Stores ledger files × AreListedBy files named tables
FilesAnswers ledger named (Err refusal) = (fault : LoadFault) × (fault_of_loading fault ≡ faults.Refused refusal) × ((files : Files) × Stores ledger files × FirstRefuses files named fault)

-- the check of the files: one of them is read at a place, where those before it list tables
abbrev pub files_loaded : Ledger → List File → Check (List Loaded)
files_loaded ledger named = record { answers = FilesAnswers ledger named; reads = λ place. (files : Files) × Stores ledger files × ReadsAt files named place.0 place.1 }
