-- The system of a name that is not built in: its files are read, admitted and sealed.
use Rattle.std.specs.Prelude.{◌≡◌, ◌⊎◌, ℕ, List, Result, Ok, Err, ⊤}
use Rattle.digit_tuple.specs.Steps.{StepLog}
use Rattle.digit_tuple.specs.declared.direction.Direction.{Direction}
use Rattle.digit_tuple.specs.declared.step_fault.StepFault.TheVariants as steps
use Rattle.adder_check.specs.Admission.{user_system}
use Rattle.adder_check.specs.declared.admit_fault.AdmitFault.{AdmitFault}
use Rattle.adder_check.specs.declared.user_system.UserSystem.{UserSystem}
use Rattle.dfa_loading.specs.declared.fault.LoadFault.{LoadFault}
use Rattle.dfa_loading.specs.declared.fault.LoadFault.TheVariants as loads
use Rattle.num_system.specs.Sealed.{SystemValue, IsSealed, system_of}
use Rattle.system_files.specs.SystemFiles.{Custom, SystemFiles}
use Rattle.system_files.specs.UserSystems.{IsUserSystem}
use Rattle.system_admission.specs.Admissions.{AdmitsFiles, IsFirstFaultIn, IsSystemIn}
use Rattle.system_admission.specs.SystemSteps.{AdmitsName, IsReadFor, fault_of}
use Rattle.system_admission.specs.declared.system_fault.SystemFault.{SystemFault}
use Rattle.system_admission.specs.declared.system_fault.SystemFault.TheVariants as faults

-- the name is admitted, and this is the system that it means, sealed
pub record IsNamedSystem (custom : Custom) (name : List ℕ) (old new : StepLog) (s : SystemValue) : Type 0 where
  pub admits : AdmitsName custom name old (Ok tt) new
  pub sealed : IsSealed s
  pub means : IsUserSystem custom name s.direction (system_of s)

-- the files are admitted, and this is the system that they define, sealed
pub record SealsFiles (direction : Direction) (files : SystemFiles) (old new : StepLog) (s : SystemValue) : Type 0 where
  pub user : UserSystem
  pub admits : AdmitsFiles direction files old (Ok user) new
  pub defined : IsSystemIn direction files user
  pub sealed : IsSealed s
  pub system : system_of s ≡ user_system user
  pub read_direction : s.direction ≡ user.direction

-- why there is no system of the name: by the texts, or because the store failed, or because memory ran out
abbrev pub FailsName : Custom → List ℕ → StepLog → StepLog → SystemFault → Type 0
FailsName custom name old new (faults.Load (loads.Store folder at)) = IsReadFor custom name folder at × (new ≡ old)
FailsName custom name old new (faults.Load loads.Memory) = ⊤
FailsName custom name old new (faults.Step steps.Memory) = ⊤
FailsName custom name old new (faults.Load (loads.Unknown folder at)) = AdmitsName custom name old (Err (faults.Load (loads.Unknown folder at))) new
FailsName custom name old new (faults.Load (loads.File folder at flaw)) = AdmitsName custom name old (Err (faults.Load (loads.File folder at flaw))) new
FailsName custom name old new (faults.NotAdmitted system law) = AdmitsName custom name old (Err (faults.NotAdmitted system law)) new
FailsName custom name old new (faults.Step (steps.Letters step)) = AdmitsName custom name old (Err (faults.Step (steps.Letters step))) new
FailsName custom name old new (faults.Step (steps.States step)) = AdmitsName custom name old (Err (faults.Step (steps.States step))) new

-- as the loading of files sees the answer: what was loaded, or the fault of the loading
abbrev pub as_loading : {X : Type 0} → Result X SystemFault → Result ⊤ LoadFault
as_loading (Ok system) = Ok tt
as_loading (Err (faults.Load fault)) = Err fault
as_loading (Err (faults.NotAdmitted system law)) = Ok tt
as_loading (Err (faults.Step fault)) = Ok tt

-- the files are admitted, or a fault of their admission is that of the system of this name, or memory ran out
abbrev pub AdmitsUnder : List ℕ → Direction → SystemFiles → StepLog → StepLog → Result UserSystem SystemFault → Type 0
AdmitsUnder name direction files old new (Ok user) = AdmitsFiles direction files old (Ok user) new
AdmitsUnder name direction files old new (Err fault) = (fault ≡ faults.Step steps.Memory) ⊎ ((refusal : AdmitFault) × AdmitsFiles direction files old (Err refusal) new × IsFirstFaultIn direction files refusal × (fault ≡ fault_of name refusal))
