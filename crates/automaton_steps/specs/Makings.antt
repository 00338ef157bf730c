-- Steps with what they make: done within the limits, or refused.
use Rattle.std.specs.Prelude.{◌≡◌, ◌⊎◌, ℕ, Result, Ok, Err}
use Rattle.digit_tuple.specs.Deterministic.{Automaton, states_of}
use Rattle.digit_tuple.specs.StepResults.{IsDone, IsLineOf, IsRefusedBy, ExceedsLetters, ExceedsWidth}
use Rattle.digit_tuple.specs.Steps.{Step, StepLog}
use Rattle.digit_tuple.specs.declared.step_fault.StepFault.{StepFault}
use Rattle.digit_tuple.specs.declared.step_fault.StepFault.TheVariants.{Memory}
use Rattle.digit_tuple.specs.declared.steps.StepLine.{StepLine}

-- a step, which values it makes, and the automaton of each
pub record Making (Made : Type 0) : Type 1 where
  pub step : Step
  pub automaton_of : Made → Automaton
  pub IsMade : Made → Type 0

-- the step is within the limits, makes this value, and has this line
pub record MakesWith {Made : Type 0} (limit : ℕ) (making : Making Made) (made : Made) (line : StepLine) : Type 0 where
  pub made_is : making.IsMade made
  pub line_is : IsLineOf limit making.step (states_of (making.automaton_of made)) line

-- the step passes the limit of letters or that of its width, or memory runs out
abbrev pub IsRefusedStep : StepLog → Step → StepFault → Type 0
IsRefusedStep old step fault = IsRefusedBy old (ExceedsLetters step) (ExceedsWidth old.limit step) fault

-- the step is done as the next one, or it is refused and the steps stay as they were
abbrev pub DoesStep : {Made : Type 0} → Making Made → StepLog → Result Made StepFault → StepLog → Type 0
DoesStep making old (Ok made) new = IsDone old (MakesWith old.limit making made) new
DoesStep making old (Err fault) new = IsRefusedStep old making.step fault × (new ≡ old)

-- no step is made, and this is the answer
abbrev pub Gives : {Made : Type 0} → Made → StepLog → Result Made StepFault → StepLog → Type 0
Gives value old result new = (result ≡ Ok value) × (new ≡ old)

-- a computation with some value of which this is true, or memory runs out before there is one
abbrev pub WithSome : {Value Made : Type 0} → (Value → Type 0) → (Value → StepLog → Result Made StepFault → StepLog → Type 0)
    → StepLog → Result Made StepFault → StepLog → Type 0
WithSome Is does old result new = (result ≡ Err Memory) ⊎ ((value : _) × Is value × does value old result new)
