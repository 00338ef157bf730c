-- From a transducer that was loaded, or not, to what a command gives of it.
use Rattle.std.proofs.Common.{◌≡◌, ℕ, List, Result, Ok, Err, refl}
use Rattle.std.specs.Prelude.{MatchResult}
use Rattle.wal_outside.specs.Files.{Files}
use Rattle.wal_outside.specs.Views.{StoreView}
use Rattle.dfa_loading.specs.declared.fault.LoadFault.{LoadFault}
use Rattle.dfa_loading.specs.declared.fault.LoadFault.TheVariants as loads
use Rattle.transducer_loading.specs.TransducerFiles.{FailsTransducer, IsLoadedTransducer, IsTransducerIn}
use Rattle.transducer_reading.specs.Transducers.{Transducer}
use Rattle.definitions.specs.Texts.{Stores}
use Rattle.definitions.specs.Trees.{Ledger}
use Rattle.command_parts.specs.declared.fault.Fault.{Fault}
use Rattle.command_parts.specs.Checks.{Fails}
use Rattle.command_parts.specs.FormulaFaults.{fault_of_loading}
use Rattle.command_parts.specs.StoreReads.{FromFiles}
use Rattle.word_commands.specs.TransducerChecks.{transducer_loaded}
use Rattle.command_parts.proofs.LoadedFiles.{caused_so}

-- the transducer, or why it is not there
abbrev pub GivesTransducer : List ℕ → Files → Result Transducer Fault → Type 0
GivesTransducer name files result = MatchResult result (IsTransducerIn files name) (λ fault. (load : LoadFault) × FailsTransducer files name load × (fault ≡ fault_of_loading load))

pub transducer_there : (name : List ℕ) (old new : StoreView) (t : Transducer) → IsLoadedTransducer name old (Ok t) new → FromFiles (GivesTransducer name) old (Ok t) new
transducer_there name old new t l = record { found = l.found; reported = l.reported; gives = l.gives; has_read = record { files = l.has_read.files; later = l.has_read.later; cause = l.has_read.cause } }

pub transducer_not_there : (name : List ℕ) (old new : StoreView) (f : LoadFault) → IsLoadedTransducer name old (Err f) new → FromFiles {X = Transducer} (GivesTransducer name) old (Err (fault_of_loading f)) new
transducer_not_there name old new f l = record {
  found = l.found;
  reported = l.reported;
  gives = (f, l.gives, refl);
  has_read = record { files = l.has_read.files; later = l.has_read.later; cause = caused_so f old new l.has_read.cause };
}

-- a transducer that is not loaded refuses a command
pub transducer_unloaded : (ledger : Ledger) (files : Files) (name : List ℕ) (f : LoadFault) → Stores ledger files → FailsTransducer files name f → Fails (transducer_loaded ledger name) (fault_of_loading f)
transducer_unloaded ledger files name (loads.Unknown folder at) stores fails = (loads.Unknown folder at, refl, (files, stores, fails))
transducer_unloaded ledger files name (loads.File folder at flaw) stores fails = (loads.File folder at flaw, refl, (files, stores, fails))
transducer_unloaded ledger files name (loads.Store folder at) stores fails = fails
transducer_unloaded ledger files name loads.Memory stores fails = tt
