-- The systems that a command mentions: those that are built in are there, and the files of users' systems are read and admitted, one system
-- after another.
use Rattle.std.specs.Prelude.{ℕ, List, Result, Ok, Err, ◌≡◌}
use Rattle.digit_tuple.specs.Steps.{StepLog}
use Rattle.system_files.specs.SystemFiles.{Custom}
use Rattle.system_admission.specs.SystemSteps.{AdmitsNames, ReadsFor, no_steps}
use Rattle.command_parts.specs.declared.refusal.Refusal.{Refusal}
use Rattle.command_parts.specs.declared.fault.Fault.TheVariants as faults
use Rattle.command_parts.specs.Checks.{Check}
use Rattle.command_parts.specs.SystemFaults.{fault_of_system}
use Rattle.system_admission.specs.declared.system_fault.SystemFault.{SystemFault}

-- the steps of the systems of these names, or why the first that is not there, or not admitted, is refused
abbrev pub SystemsAnswers : ℕ → Custom → List (List ℕ) → Result StepLog Refusal → Type 0
SystemsAnswers limit custom names (Ok log) = AdmitsNames custom names (no_steps limit) (Ok tt) log
SystemsAnswers limit custom names (Err refusal) = (fault : SystemFault) × (fault_of_system fault ≡ faults.Refused refusal) × ((log : StepLog) × AdmitsNames custom names (no_steps limit) (Err fault) log)

-- the check of the systems of these names
abbrev pub systems_known : ℕ → Custom → List (List ℕ) → Check StepLog
systems_known limit custom names = record { answers = SystemsAnswers limit custom names; reads = λ place. ReadsFor custom names (no_steps limit) place.0 place.1 }
