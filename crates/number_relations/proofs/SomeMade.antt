-- What a computation with some value made.
use Rattle.std.proofs.Common.{inl, inr, Result, Ok, sym, subst}
use Rattle.digit_tuple.specs.Steps.{StepLog}
use Rattle.digit_tuple.specs.declared.step_fault.StepFault.{StepFault}
use Rattle.digit_tuple.specs.declared.step_fault.StepFault.TheVariants.{Memory}
use Rattle.automaton_steps.specs.Makings.{Gives, WithSome}
use Rattle.automaton_steps.proofs.ThenAnswers.{equal_value, no_fault}

-- some value was there, and the computation went on with it
pub some_made : {Value Made : Type 0} (Is : Value → Type 0) (does : Value → StepLog → Result Made StepFault → StepLog → Type 0) (old new : StepLog) (b : Made) → WithSome Is does old (Ok b) new
    → (value : Value) × Is value × does value old (Ok b) new
some_made Is does old new b (inl out) = absurd (no_fault b Memory out)
some_made Is does old new b (inr made) = made

-- and is what was given
pub given_made : {Made : Type 0} (Is : Made → Type 0) (old new : StepLog) (b : Made) → WithSome Is Gives old (Ok b) new → Is b
given_made Is old new b made =
    let found = some_made Is Gives old new b made in
    subst Is (equal_value found.0 b (sym found.2.0)) found.1
