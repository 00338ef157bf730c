-- Faults of steps as faults of admission, and the comparison of what steps made.
use Rattle.std.specs.Prelude.{◌≡◌, ◌↔◌, Bool, IsTrue, Result, Ok, Err, MatchResult}
use Rattle.digit_tuple.specs.Deterministic.{Automaton}
use Rattle.digit_tuple.specs.Steps.{StepLog}
use Rattle.digit_tuple.specs.declared.step_fault.StepFault.{StepFault}
use Rattle.digit_tuple.specs.declared.step_fault.StepFault.TheVariants as steps
use Rattle.minimise.specs.Residuals.{SameLanguage}
use Rattle.adder_check.specs.declared.admit_fault.AdmitFault.{AdmitFault}
use Rattle.adder_check.specs.declared.admit_fault.AdmitFault.TheVariants as faults

abbrev pub fault_of : StepFault → AdmitFault
fault_of (steps.Letters step) = faults.Letters step
fault_of (steps.States step) = faults.States step
fault_of steps.Memory = faults.Memory

-- a step, its fault as one of admission
abbrev pub Lifted : {A : Type 0} → (StepLog → Result A StepFault → StepLog → Type 0) → StepLog → Result A AdmitFault → StepLog → Type 0
Lifted does old (Ok a) new = does old (Ok a) new
Lifted does old (Err fault) new = (f : StepFault) × does old (Err f) new × (fault ≡ fault_of f)

-- whether the two have one language, which is no step
abbrev pub DecidesSame : Automaton → Automaton → StepLog → Result Bool StepFault → StepLog → Type 0
DecidesSame one other old result new = MatchResult result (λ are. (IsTrue are ↔ SameLanguage one other) × (new ≡ old)) (λ _. ⊥)
