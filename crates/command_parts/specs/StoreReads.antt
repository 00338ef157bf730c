-- Commands that read a store: what they give is said of some files, which are the store's where it reports them.
use Rattle.std.specs.Prelude.{◌≡◌, ◌≤◌, List, Some, IfSome, Result, MatchResult}
use Rattle.std.specs.Option.{option_map}
use Rattle.wal_outside.specs.Causes.{Rose}
use Rattle.wal_outside.specs.Files.{Files}
use Rattle.wal_outside.specs.Views.{StoreView}
use Rattle.wal_outside.specs.declared.folder.Folder.TheVariants.{Bases}
use Rattle.dfa_loading.specs.Places.{AreReported}
use Rattle.system_files.specs.SystemFiles.{Custom}
use Rattle.system_files.specs.SystemTexts.{FoundText, Agrees, AreInSomeFolder}
use Rattle.command_parts.specs.declared.fault.Fault.{Fault}
use Rattle.command_parts.specs.declared.fault.Fault.TheVariants as faults

-- the count of faults rose, and the last call that failed is the one at this place; or no call failed
abbrev pub IsReadFault : Fault → StoreView → StoreView → Type 0
IsReadFault (faults.Store folder name) old new = Rose old.faults new.faults × (new.failed ≡ option_map (λ _. Some (folder, name)) old.failed)
IsReadFault fault old new = new.failed ≡ old.failed

-- reading changes no text, and a store fault comes only where a call failed
pub record HasRead {X : Type 0} (old : StoreView) (result : Result X Fault) (new : StoreView) : Type 0 where
  pub files : new.files ≡ old.files
  pub later : old.faults ≤ new.faults
  pub cause : MatchResult result (λ _. new.failed ≡ old.failed) (λ fault. IsReadFault fault old new)

-- what is given by the files that were found
pub record FromFiles {X : Type 0} (Gives : Files → Result X Fault → Type 0) (old : StoreView) (result : Result X Fault) (new : StoreView) : Type 0 where
  pub found : Files
  pub reported : AreReported old found
  pub gives : Gives found result
  pub has_read : HasRead old result new

-- What is given by the texts of users' systems that were found, whatever else is in their folder. They may be there, and do where the store
-- reports its files.
pub record FromTexts {X : Type 0} (Gives : Custom → Result X Fault → Type 0) (old : StoreView) (result : Result X Fault) (new : StoreView) : Type 0 where
  pub found : List FoundText
  pub in_some_folder : AreInSomeFolder found
  pub reported : IfSome old.files (λ (files : Files). Agrees (files Bases) found)
  pub gives : (custom : Custom) → Agrees custom found → Gives custom result
  pub has_read : HasRead old result new
