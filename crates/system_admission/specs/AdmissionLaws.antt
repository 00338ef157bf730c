-- What holds of admissions.
use Rattle.std.specs.Prelude.{◌≡◌, ℕ, List, Result, ⊤}
use Rattle.digit_tuple.specs.Steps.{StepLog, with_lines}
use Rattle.digit_tuple.specs.declared.step_fault.StepFault.TheVariants as steps
use Rattle.digit_tuple.specs.declared.steps.StepLine.{StepLine}
use Rattle.automaton_steps.specs.OneAnswers.{HasOneAnswer}
use Rattle.adder_check.specs.Admission.{user_system}
use Rattle.adder_check.specs.declared.user_system.UserSystem.{UserSystem}
use Rattle.system_files.specs.SystemFiles.{Custom}
use Rattle.system_files.specs.UserSystems.{IsUserSystem}
use Rattle.system_admission.specs.SystemSteps.{IsAdmittedName, AdmitsNames}
use Rattle.system_admission.specs.declared.system_fault.SystemFault.{SystemFault}
use Rattle.system_admission.specs.declared.system_fault.SystemFault.TheVariants as faults

-- names are admitted in one way, or refused by one fault, with the same steps, unless memory runs out
abbrev pub AdmissionsHaveOneOutcome : Type 0
AdmissionsHaveOneOutcome = (custom : Custom) (names : List (List ℕ)) → HasOneAnswer (faults.Step steps.Memory) (AdmitsNames custom names)

-- what is admitted under a name is the system that the name means
abbrev pub AdmittedSystemsAreMeant : Type 0
AdmittedSystemsAreMeant = (custom : Custom) (name : List ℕ) (old new : StepLog) (user : UserSystem) → IsAdmittedName custom name old user new → IsUserSystem custom name user.direction (user_system user)

-- the steps come after those that were there, under the same limit
abbrev pub AdmissionsAddSteps : Type 0
AdmissionsAddSteps = (custom : Custom) (names : List (List ℕ)) (old new : StepLog) (result : Result ⊤ SystemFault) → AdmitsNames custom names old result new → (lines : List StepLine) × (new ≡ with_lines old lines)
