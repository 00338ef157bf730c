-- The steps by which a user's system is admitted, from what its files list.
use Rattle.std.specs.Prelude.{◌≡◌, ◌⊎◌, ℕ, ◌+◌, Bool, List, [], ◌∷◌, length, Result, Err}
use Rattle.digit_tuple.specs.Automaton.{Branching, IsBranchTable, letters_of}
use Rattle.digit_tuple.specs.Deterministic.{Automaton}
use Rattle.digit_tuple.specs.Letters.{IsAlphabet, IsTooLarge}
use Rattle.digit_tuple.specs.StepResults.{Then}
use Rattle.digit_tuple.specs.Steps.{StepLog}
use Rattle.digit_tuple.specs.declared.direction.Direction.{Direction}
use Rattle.dfa_reading.specs.Branching.{IsBranching}
use Rattle.dfa_reading.specs.Listed.{Listed}
use Rattle.numeration.specs.Systems.{System}
use Rattle.adder_check.specs.Admission.{DoesLanguage, DoesAdmission, IsFirstFault, user_system}
use Rattle.adder_check.specs.Faults.{Lifted}
use Rattle.adder_check.specs.SuccessorPlan.{DoesSuccessor}
use Rattle.adder_check.specs.declared.admit_fault.AdmitFault.{AdmitFault}
use Rattle.adder_check.specs.declared.admit_fault.AdmitFault.TheVariants as faults
use Rattle.adder_check.specs.declared.user_system.UserSystem.{UserSystem}
use Rattle.system_files.specs.SystemFiles.{SystemFiles}
use Rattle.system_files.specs.UserSystems.{AreWordsOf, AddsInFile, IsDefinedBy}

-- the branching automaton of what is listed, over tracks of these sizes, which have an alphabet
pub record IsTableOf (sizes : List ℕ) (listed : Listed) (branching : Branching) : Type 0 where
  pub fits : IsAlphabet sizes
  pub is_branching : IsBranching sizes listed branching
  pub table : IsBranchTable (letters_of branching) branching.states

-- the first step is refused for its letters
abbrev pub IsFirstRefused : StepLog → Result UserSystem AdmitFault → StepLog → Type 0
IsFirstRefused old result new = (result ≡ Err (faults.Letters (length old.lines + 1))) × (new ≡ old)

-- memory runs out before the first step
abbrev pub RunsOut : StepLog → Result UserSystem AdmitFault → StepLog → Type 0
RunsOut old result new = (result ≡ Err faults.Memory) × (new ≡ old)

-- the steps and laws of a language's file, and the steps of its successor
abbrev pub DoesNumbers : Direction → Branching → Bool → StepLog → Result Automaton AdmitFault → StepLog → Type 0
DoesNumbers read_direction language reversed = Then (DoesLanguage read_direction language reversed) (λ d. Lifted (DoesSuccessor read_direction d))

-- one of these laws does not hold, or one of these steps is refused
abbrev pub StopsAtLanguage : Direction → Branching → Bool → StepLog → Result UserSystem AdmitFault → StepLog → Type 0
StopsAtLanguage read_direction language reversed = Then (DoesNumbers read_direction language reversed) (λ next old result new. ⊥)

-- With the language's automaton. Three tracks of so many digits may have too many letters for an adder, and then a step before its own is
-- refused: the successor takes three tracks too.
abbrev pub AdmitsWithLanguage : Direction → SystemFiles → Branching → StepLog → Result UserSystem AdmitFault → StepLog → Type 0
AdmitsWithLanguage read_direction files language old result new =
    (IsTooLarge (files.digits ∷ files.digits ∷ files.digits ∷ []) × StopsAtLanguage read_direction language files.reversed old result new)
    ⊎ ((adder : Branching) × IsTableOf (files.digits ∷ files.digits ∷ files.digits ∷ []) files.adder adder × DoesAdmission read_direction language adder files.reversed old result new)

-- the steps and laws of admission, as the next ones, with the answer
abbrev pub AdmitsFiles : Direction → SystemFiles → StepLog → Result UserSystem AdmitFault → StepLog → Type 0
AdmitsFiles read_direction files old result new =
    RunsOut old result new
    ⊎ ((IsTooLarge (files.digits ∷ []) × IsFirstRefused old result new)
    ⊎ ((language : Branching) × IsTableOf (files.digits ∷ []) files.language language × AdmitsWithLanguage read_direction files language old result new))

-- the first law that does not hold of the words and the sums of the files
abbrev pub IsFirstFaultIn : Direction → SystemFiles → AdmitFault → Type 0
IsFirstFaultIn read_direction files fault = (s : System) → AreWordsOf read_direction files s → IsFirstFault s (AddsInFile read_direction files s) fault

-- the user's system is the one that the files define
pub record IsSystemIn (read_direction : Direction) (files : SystemFiles) (user : UserSystem) : Type 0 where
  pub direction : user.direction ≡ read_direction
  pub defined : IsDefinedBy read_direction files (user_system user)
