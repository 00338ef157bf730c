-- From a morphism that was loaded, or not, to what a command gives of it.
use Rattle.std.proofs.Common.{◌≡◌, ℕ, List, Result, Ok, Err, refl}
use Rattle.std.specs.Prelude.{MatchResult}
use Rattle.wal_outside.specs.Files.{Files}
use Rattle.wal_outside.specs.Views.{StoreView}
use Rattle.dfa_loading.specs.declared.fault.LoadFault.{LoadFault}
use Rattle.dfa_loading.specs.declared.fault.LoadFault.TheVariants as loads
use Rattle.morph_words.specs.Rules.{Rules}
use Rattle.morphism_loading.specs.MorphismFiles.{IsLoadedMorphism, IsMorphismIn, FailsMorphism}
use Rattle.definitions.specs.Texts.{Stores}
use Rattle.definitions.specs.Trees.{Ledger}
use Rattle.command_parts.specs.declared.fault.Fault.{Fault}
use Rattle.command_parts.specs.Checks.{Fails}
use Rattle.command_parts.specs.FormulaFaults.{fault_of_loading}
use Rattle.word_commands.specs.MorphismChecks.{morphism_loaded}
use Rattle.command_parts.specs.StoreReads.{FromFiles}
use Rattle.command_parts.proofs.LoadedFiles.{caused_so}

-- the rules, or why they are not there
abbrev pub GivesMorphism : List ℕ → Files → Result Rules Fault → Type 0
GivesMorphism name files result = MatchResult result (IsMorphismIn files name) (λ fault. (load : LoadFault) × FailsMorphism files name load × (fault ≡ fault_of_loading load))

pub morphism_there : (name : List ℕ) (old new : StoreView) (rules : Rules) → IsLoadedMorphism name old (Ok rules) new → FromFiles (GivesMorphism name) old (Ok rules) new
morphism_there name old new rules l = record { found = l.found; reported = l.reported; gives = l.gives; has_read = record { files = l.has_read.files; later = l.has_read.later; cause = l.has_read.cause } }

pub morphism_not_there : (name : List ℕ) (old new : StoreView) (f : LoadFault) → IsLoadedMorphism name old (Err f) new → FromFiles {X = Rules} (GivesMorphism name) old (Err (fault_of_loading f)) new
morphism_not_there name old new f l = record {
  found = l.found;
  reported = l.reported;
  gives = (f, l.gives, refl);
  has_read = record { files = l.has_read.files; later = l.has_read.later; cause = caused_so f old new l.has_read.cause };
}

-- a morphism that is not loaded refuses a command
pub morphism_unloaded : (ledger : Ledger) (files : Files) (name : List ℕ) (f : LoadFault) → Stores ledger files → FailsMorphism files name f → Fails (morphism_loaded ledger name) (fault_of_loading f)
morphism_unloaded ledger files name (loads.Unknown folder at) stores fails = (loads.Unknown folder at, refl, (files, stores, fails))
morphism_unloaded ledger files name (loads.File folder at flaw) stores fails = (loads.File folder at flaw, refl, (files, stores, fails))
morphism_unloaded ledger files name (loads.Store folder at) stores fails = fails
morphism_unloaded ledger files name loads.Memory stores fails = tt
