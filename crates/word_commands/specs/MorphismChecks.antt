-- The morphism that a command names, read from its file.
use Rattle.std.specs.Prelude.{◌≡◌, ℕ, List, Result, Ok, Err}
use Rattle.wal_outside.specs.Files.{Files}
use Rattle.wal_outside.specs.declared.folder.Folder.TheVariants.{Morphisms}
use Rattle.morph_words.specs.Rules.{Rules}
use Rattle.morphism_loading.specs.MorphismFiles.{IsMorphismIn, RefusesMorphism}
use Rattle.definitions.specs.Trees.{Ledger}
use Rattle.definitions.specs.Texts.{Stores}
use Rattle.command_parts.specs.declared.refusal.Refusal.{Refusal}
use Rattle.command_parts.specs.declared.fault.Fault.TheVariants as faults
use Rattle.command_parts.specs.Checks.{Check}
use Rattle.command_parts.specs.FormulaFaults.{fault_of_loading}
use Rattle.dfa_loading.specs.declared.fault.LoadFault.{LoadFault}

-- the rules of the file of this name, by the texts of the ledger; or why it has none
abbrev pub MorphismAnswers : Ledger → List ℕ → Result Rules Refusal → Type 0
MorphismAnswers ledger name (Ok rules) = (files : Files) × Stores ledger files × IsMorphismIn files name rules
MorphismAnswers ledger name (Err refusal) = (fault : LoadFault) × (fault_of_loading fault ≡ faults.Refused refusal) × ((files : Files) × Stores ledger files × RefusesMorphism files name fault)

abbrev pub morphism_loaded : Ledger → List ℕ → Check Rules
morphism_loaded ledger name = record { answers = MorphismAnswers ledger name; reads = λ place. (place.0 ≡ Morphisms) × (place.1 ≡ name) }
