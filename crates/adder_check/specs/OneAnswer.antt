-- What admission answers is one.
use Rattle.std.specs.Prelude.{◌≡◌, ℕ, Bool, [], ◌∷◌}
use Rattle.digit_tuple.specs.Automaton.{Branching}
use Rattle.digit_tuple.specs.declared.direction.Direction.{Direction}
use Rattle.automaton_steps.specs.OneAnswers.{HasOneAnswer}
use Rattle.adder_check.specs.declared.admit_fault.AdmitFault.TheVariants as faults
use Rattle.adder_check.specs.Admission.{DoesAdmission}

-- the answer, with its steps and their lines
abbrev pub AdmissionHasOneAnswer : Type 0
AdmissionHasOneAnswer = (direction : Direction) (language adder : Branching) (reversed : Bool) (digits : ℕ) → language.sizes ≡ digits ∷ []
    → HasOneAnswer faults.Memory (DoesAdmission direction language adder reversed)
