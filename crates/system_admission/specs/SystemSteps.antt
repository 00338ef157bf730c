-- The systems that names mean, one after another: a name that is built in takes no step, a user's system those of its admission.
use Rattle.std.specs.Prelude.{◌≡◌, ◌⊎◌, ℕ, List, [], ◌∷◌, Result, Ok, Err, ⊤}
use Rattle.digit_tuple.specs.StepResults.{Then}
use Rattle.digit_tuple.specs.Steps.{StepLog}
use Rattle.digit_tuple.specs.declared.direction.Direction.{Direction}
use Rattle.digit_tuple.specs.declared.step_fault.StepFault.TheVariants as steps
use Rattle.adder_check.specs.declared.admit_fault.AdmitFault.{AdmitFault}
use Rattle.adder_check.specs.declared.admit_fault.AdmitFault.TheVariants as admits
use Rattle.adder_check.specs.declared.user_system.UserSystem.{UserSystem}
use Rattle.dfa_loading.specs.declared.fault.LoadFault.{LoadFault}
use Rattle.dfa_loading.specs.declared.fault.LoadFault.TheVariants as loads
use Rattle.system_files.specs.SystemFiles.{Custom, SystemFiles, AreFilesOf, RefusesFiles, AreReadAt}
use Rattle.system_names.specs.Names.{IsBuiltInName}
use Rattle.system_names.specs.UserNames.{IsUserName, IsUsersName}
use Rattle.wal_outside.specs.declared.folder.Folder.{Folder}
use Rattle.wal_outside.specs.declared.folder.Folder.TheVariants.{Bases}
use Rattle.system_admission.specs.Admissions.{AdmitsFiles, IsFirstFaultIn}
use Rattle.system_admission.specs.declared.system_fault.SystemFault.{SystemFault}
use Rattle.system_admission.specs.declared.system_fault.SystemFault.TheVariants as faults

-- the fault of an admission, as that of the system of this name
abbrev pub fault_of : List ℕ → AdmitFault → SystemFault
fault_of name (admits.NotAdmitted law) = faults.NotAdmitted name law
fault_of name (admits.Letters step) = faults.Step (steps.Letters step)
fault_of name (admits.States step) = faults.Step (steps.States step)
fault_of name admits.Memory = faults.Step steps.Memory

-- the files of the user's system of this name are there
pub record HasFiles (custom : Custom) (name : List ℕ) (direction : Direction) (files : SystemFiles) : Type 0 where
  pub part : List ℕ
  pub is_name : IsUserName direction part name
  pub found : AreFilesOf custom direction part files

-- they are admitted, and the steps are these
pub record IsAdmittedName (custom : Custom) (name : List ℕ) (old : StepLog) (user : UserSystem) (new : StepLog) : Type 0 where
  pub direction : Direction
  pub files : SystemFiles
  pub has_files : HasFiles custom name direction files
  pub admits : AdmitsFiles direction files old (Ok user) new

-- They are not admitted. Where a law is the cause, it is false of the words and the sums of the files, and each law before it is true.
pub record IsNotAdmitted (custom : Custom) (name : List ℕ) (old : StepLog) (fault : SystemFault) (new : StepLog) : Type 0 where
  pub direction : Direction
  pub files : SystemFiles
  pub has_files : HasFiles custom name direction files
  pub refusal : AdmitFault
  pub admits : AdmitsFiles direction files old (Err refusal) new
  pub first : IsFirstFaultIn direction files refusal
  pub fault_is : fault ≡ fault_of name refusal

-- no user's system is called so; or its files are not there; or they are not admitted
abbrev pub RefusesName : Custom → List ℕ → StepLog → SystemFault → StepLog → Type 0
RefusesName custom name old fault new =
    ((¬ IsUsersName name) × (fault ≡ faults.Load (loads.Unknown Bases name)) × (new ≡ old))
    ⊎ (((direction : Direction) × (part : List ℕ) × IsUserName direction part name × ((load : LoadFault) × RefusesFiles custom direction part load × (fault ≡ faults.Load load)) × (new ≡ old))
    ⊎ IsNotAdmitted custom name old fault new)

-- a name that is not built in
abbrev pub AdmitsOther : Custom → List ℕ → StepLog → Result ⊤ SystemFault → StepLog → Type 0
AdmitsOther custom name old (Ok _) new = (user : UserSystem) × IsAdmittedName custom name old user new
AdmitsOther custom name old (Err fault) new = RefusesName custom name old fault new

-- one name
abbrev pub AdmitsName : Custom → List ℕ → StepLog → Result ⊤ SystemFault → StepLog → Type 0
AdmitsName custom name old result new = (IsBuiltInName name × (result ≡ Ok tt) × (new ≡ old)) ⊎ ((¬ IsBuiltInName name) × AdmitsOther custom name old result new)

-- no step so far
abbrev pub no_steps : ℕ → StepLog
no_steps limit = record { limit = limit; lines = [] }

-- the names one after another
abbrev pub AdmitsNames : Custom → List (List ℕ) → StepLog → Result ⊤ SystemFault → StepLog → Type 0
AdmitsNames custom [] old result new = (result ≡ Ok tt) × (new ≡ old)
AdmitsNames custom (name ∷ names) old result new = Then (AdmitsName custom name) (λ _. AdmitsNames custom names) old result new

-- a file of the system of this name is read there
abbrev pub IsReadFor : Custom → List ℕ → Folder → List ℕ → Type 0
IsReadFor custom name folder at = (¬ IsBuiltInName name) × ((direction : Direction) × (part : List ℕ) × IsUserName direction part name × AreReadAt custom direction part folder at)

-- one of the names has a file that is read there, and those before it are admitted
abbrev pub ReadsFor : Custom → List (List ℕ) → StepLog → Folder → List ℕ → Type 0
ReadsFor custom [] old folder at = ⊥
ReadsFor custom (name ∷ names) old folder at = IsReadFor custom name folder at ⊎ ((mid : StepLog) × AdmitsName custom name old (Ok tt) mid × ReadsFor custom names mid folder at)
