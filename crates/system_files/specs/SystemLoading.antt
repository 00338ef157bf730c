-- The files of a user's system, loaded from a store.
use Rattle.std.specs.Prelude.{ℕ, List, Result, MatchResult, ⊤}
use Rattle.digit_tuple.specs.declared.direction.Direction.{Direction}
use Rattle.dfa_loading.specs.Places.{HasRead}
use Rattle.dfa_loading.specs.declared.fault.LoadFault.{LoadFault}
use Rattle.dfa_loading.specs.declared.fault.LoadFault.TheVariants as faults
use Rattle.wal_outside.specs.Views.{StoreView}
use Rattle.system_files.specs.SystemFiles.{Custom, SystemFiles, AreFilesOf, RefusesFiles, AreReadAt}
use Rattle.system_files.specs.SystemTexts.{FoundText, Agrees, HasFound}

-- why the files are not loaded: by what is there, or because the store failed, or because memory ran out
abbrev pub FailsFiles : Custom → Direction → List ℕ → LoadFault → Type 0
FailsFiles custom direction part (faults.Unknown folder name) = RefusesFiles custom direction part (faults.Unknown folder name)
FailsFiles custom direction part (faults.File folder name flaw) = RefusesFiles custom direction part (faults.File folder name flaw)
FailsFiles custom direction part (faults.Store folder name) = AreReadAt custom direction part folder name
FailsFiles custom direction part faults.Memory = ⊤

-- They were loaded, or not, whatever else is in the folder in which all that was found is.
pub record AreFilesLoaded (direction : Direction) (part : List ℕ) (before : List FoundText) (old : StoreView) (result : Result SystemFiles LoadFault) (after : List FoundText) (new : StoreView) : Type 0 where
  pub gives : (custom : Custom) → Agrees custom after → MatchResult result (AreFilesOf custom direction part) (FailsFiles custom direction part)
  pub found : HasFound before old after
  pub has_read : HasRead old result new
