-- The systems of names are admitted in one way, or refused by one fault.
use Rattle.std.proofs.Common.{◌≡◌, ◌≢◌, ℕ, List, Result, Ok, Err, refl, sym, ◌∙◌, ap}
use Rattle.std.specs.Prelude.{⊤}
use Rattle.digit_tuple.specs.Steps.{StepLog}
use Rattle.digit_tuple.specs.declared.step_fault.StepFault.TheVariants as steps
use Rattle.automaton_steps.proofs.AnswerCases.{one_result}
use Rattle.system_files.specs.SystemFiles.{Custom}
use Rattle.system_admission.specs.SystemSteps.{AdmitsNames, no_steps}
use Rattle.system_admission.specs.declared.system_fault.SystemFault.{SystemFault}
use Rattle.system_admission.specs.declared.system_fault.SystemFault.TheVariants as systems
use Rattle.system_admission.proofs.OneNames.{names_one}
use Rattle.command_parts.specs.declared.refusal.Refusal.{Refusal}
use Rattle.command_parts.specs.SystemChecks.{SystemsAnswers, systems_known}
use Rattle.command_parts.specs.SystemFaults.{fault_of_system}
use Rattle.command_parts.specs.Checks.{IsSingle}
use Rattle.command_parts.proofs.CheckSteps.{single_so}
use Rattle.command_parts.proofs.RefusingSteps.{refusing_one}
use Rattle.command_parts.specs.RefusingChecks.{Refusing}

-- the steps, or the fault
abbrev of_names : Result ⊤ SystemFault → StepLog → Result StepLog SystemFault
of_names (Ok done) log = Ok log
of_names (Err fault) log = Err fault

record IsAdmission (limit : ℕ) (custom : Custom) (names : List (List ℕ)) (r : Result StepLog SystemFault) : Type 0 where
  result : Result ⊤ SystemFault
  log : StepLog
  admits : AdmitsNames custom names (no_steps limit) result log
  is : r ≡ of_names result log

systems_is : (limit : ℕ) (custom : Custom) (names : List (List ℕ)) (r : Result StepLog Refusal) → SystemsAnswers limit custom names r → (Refusing fault_of_system (IsAdmission limit custom names)).answers r
systems_is limit custom names (Ok log) a = record { result = Ok tt; log = log; admits = a; is = refl }
systems_is limit custom names (Err refusal) (fault, is, (log, admits)) = (fault, is, record { result = Err fault; log = log; admits = admits; is = refl })

systems_one : (limit : ℕ) (custom : Custom) (names : List (List ℕ)) (r s : Result StepLog SystemFault) → IsAdmission limit custom names r → IsAdmission limit custom names s → r ≢ Err (systems.Step steps.Memory) → s ≢ Err (systems.Step steps.Memory) → r ≡ s
systems_one limit custom names r s p q some other =
    let one = one_result (systems.Step steps.Memory) p.log q.log p.result q.result (names_one custom names (no_steps limit) p.log q.log p.result q.result p.admits q.admits)
    (λ is. some (p.is ∙ ap (λ (x : Result ⊤ SystemFault). of_names x p.log) is)) (λ is. other (q.is ∙ ap (λ (x : Result ⊤ SystemFault). of_names x q.log) is)) in
    p.is ∙ ((λ i. of_names (one.0 i) (one.1 i)) ∙ sym q.is)

pub systems_single : (limit : ℕ) (custom : Custom) (names : List (List ℕ)) → IsSingle (systems_known limit custom names)
systems_single limit custom names =
    single_so (systems_known limit custom names) (Refusing fault_of_system (IsAdmission limit custom names)) (systems_is limit custom names) (refusing_one fault_of_system (IsAdmission limit custom names) (systems.Step steps.Memory) refl (systems_one limit custom names))
