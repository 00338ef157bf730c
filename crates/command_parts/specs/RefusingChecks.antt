-- Checks that read no file and refuse by faults of their own.
use Rattle.std.specs.Prelude.{◌≡◌, Result, Ok, Err}
use Rattle.command_parts.specs.declared.fault.Fault.{Fault}
use Rattle.command_parts.specs.declared.fault.Fault.TheVariants as faults
use Rattle.command_parts.specs.Checks.{Check}

-- such a check: those of its own faults that refuse a command are its answers; the others come from outside
abbrev pub Refusing : {Y E : Type 0} → (E → Fault) → (Result Y E → Type 0) → Check Y
Refusing {Y} {E} as_fault answers = record {
  answers = λ r. elim r [
    | Ok y ↦ answers (Ok y)
    | Err refusal ↦ (own : E) × (as_fault own ≡ faults.Refused refusal) × answers (Err own)
  ];
  reads = λ place. ⊥;
}
