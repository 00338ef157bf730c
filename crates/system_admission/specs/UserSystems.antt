-- The systems of users among some names, admitted one after another.
use Rattle.std.specs.Prelude.{◌≡◌, ℕ, List, Result, Ok, Err, IfSome, MatchResult, ⊤}
use Rattle.std.specs.List.{AllByRecursion}
use Rattle.digit_tuple.specs.Steps.{StepLog}
use Rattle.digit_tuple.specs.declared.step_fault.StepFault.TheVariants as steps
use Rattle.dfa_loading.specs.Places.{HasRead}
use Rattle.dfa_loading.specs.declared.fault.LoadFault.TheVariants as loads
use Rattle.named_systems.specs.NamedSystems.{NamedSystem, with_system, IsThere}
use Rattle.num_system.specs.Sealed.{SystemValue, system_of}
use Rattle.system_files.specs.SystemFiles.{Custom}
use Rattle.system_files.specs.SystemTexts.{FoundText, Agrees, HasFound, AreInSomeFolder}
use Rattle.system_files.specs.UserSystems.{IsUserSystem}
use Rattle.wal_outside.specs.Files.{Files}
use Rattle.wal_outside.specs.Views.{StoreView}
use Rattle.wal_outside.specs.declared.folder.Folder.TheVariants.{Bases}
use Rattle.system_admission.specs.NameAdmissions.{FailsName, as_loading}
use Rattle.system_admission.specs.SystemSteps.{AdmitsName, AdmitsNames, ReadsFor, no_steps}
use Rattle.system_admission.specs.declared.system_fault.SystemFault.{SystemFault}
use Rattle.system_admission.specs.declared.system_fault.SystemFault.TheVariants as faults
use Rattle.system_admission.specs.declared.user_systems.UserSystems.{UserSystems}

-- each is the user's system that its name means
abbrev pub AreUsers : Custom → List NamedSystem → Type 0
AreUsers custom systems = AllByRecursion (λ (s : NamedSystem). IsUserSystem custom s.name s.system.direction (system_of s.system)) systems

-- the users' systems of these names are admitted by the first steps under a limit
pub record AreAdmitted (limit : ℕ) (names : List (List ℕ)) (custom : Custom) (users : UserSystems) : Type 0 where
  pub admits : AdmitsNames custom names (no_steps limit) (Ok tt) users.steps
  pub meant : AreUsers custom users.named
  pub there : AllByRecursion (IsThere users.named) names

-- why the first that is not admitted is refused: by the texts, or because the store failed at a file that is read, or because memory ran out
abbrev pub FailsNames : Custom → List (List ℕ) → StepLog → SystemFault → Type 0
FailsNames custom names old (faults.Load (loads.Store folder at)) = ReadsFor custom names old folder at
FailsNames custom names old (faults.Load loads.Memory) = ⊤
FailsNames custom names old (faults.Step steps.Memory) = ⊤
FailsNames custom names old (faults.Load (loads.Unknown folder at)) = (folder ≡ Bases) × (new : StepLog) × AdmitsNames custom names old (Err (faults.Load (loads.Unknown folder at))) new
FailsNames custom names old (faults.Load (loads.File folder at flaw)) = (new : StepLog) × AdmitsNames custom names old (Err (faults.Load (loads.File folder at flaw))) new
FailsNames custom names old (faults.NotAdmitted system law) = (new : StepLog) × AdmitsNames custom names old (Err (faults.NotAdmitted system law)) new
FailsNames custom names old (faults.Step (steps.Letters step)) = (new : StepLog) × AdmitsNames custom names old (Err (faults.Step (steps.Letters step))) new
FailsNames custom names old (faults.Step (steps.States step)) = (new : StepLog) × AdmitsNames custom names old (Err (faults.Step (steps.States step))) new

-- They are admitted or not, by the texts that were found, whatever else is in the folder. These may be there, and are where the store reports
-- its files.
pub record AdmitsUsers (limit : ℕ) (names : List (List ℕ)) (old : StoreView) (result : Result UserSystems SystemFault) (new : StoreView) : Type 0 where
  pub found : List FoundText
  pub in_some_folder : AreInSomeFolder found
  pub reported : IfSome old.files (λ (files : Files). Agrees (files Bases) found)
  pub gives : (custom : Custom) → Agrees custom found → MatchResult result (AreAdmitted limit names custom) (FailsNames custom names (no_steps limit))
  pub has_read : HasRead old (as_loading result) new

-- one more that is admitted
pub record AddsUser (custom : Custom) (name : List ℕ) (before after : UserSystems) : Type 0 where
  pub admits : AdmitsName custom name before.steps (Ok tt) after.steps
  pub system : SystemValue
  pub defined : IsUserSystem custom name system.direction (system_of system)
  pub named : after.named ≡ with_system before.named name system

-- it is admitted, or not, by the texts that were read
pub record AdmitsUser (name : List ℕ) (before : UserSystems) (old : StoreView) (result : Result (Unit {0}) SystemFault) (after : UserSystems) (new : StoreView) : Type 0 where
  pub gives : (custom : Custom) → Agrees custom after.texts → MatchResult result (λ _. AddsUser custom name before after) (FailsName custom name before.steps after.steps)
  pub found : HasFound before.texts old after.texts
  pub in_some_folder : AreInSomeFolder after.texts
  pub has_read : HasRead old (as_loading result) new
