-- The transducer that a command names, read from its file.
use Rattle.std.specs.Prelude.{◌≡◌, ℕ, List, Result, Ok, Err}
use Rattle.wal_outside.specs.Files.{Files}
use Rattle.wal_outside.specs.declared.folder.Folder.TheVariants.{Transducers}
use Rattle.dfa_loading.specs.declared.fault.LoadFault.{LoadFault}
use Rattle.transducer_loading.specs.TransducerFiles.{IsTransducerIn, RefusesTransducer}
use Rattle.transducer_reading.specs.Transducers.{Transducer}
use Rattle.definitions.specs.Texts.{Stores}
use Rattle.definitions.specs.Trees.{Ledger}
use Rattle.command_parts.specs.declared.refusal.Refusal.{Refusal}
use Rattle.command_parts.specs.declared.fault.Fault.TheVariants as faults
use Rattle.command_parts.specs.Checks.{Check}
use Rattle.command_parts.specs.FormulaFaults.{fault_of_loading}

-- the transducer of the file of this name, by the texts of the ledger; or why it has none
abbrev pub TransducerAnswers : Ledger → List ℕ → Result Transducer Refusal → Type 0
TransducerAnswers ledger name (Ok transducer) = (files : Files) × Stores ledger files × IsTransducerIn files name transducer
TransducerAnswers ledger name (Err refusal) = (load : LoadFault) × (fault_of_loading load ≡ faults.Refused refusal) × ((files : Files) × Stores ledger files × RefusesTransducer files name load)

abbrev pub transducer_loaded : Ledger → List ℕ → Check Transducer
transducer_loaded ledger name = record { answers = TransducerAnswers ledger name; reads = λ place. (place.0 ≡ Transducers) × (place.1 ≡ name) }
