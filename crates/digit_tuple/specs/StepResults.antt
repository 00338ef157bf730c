-- The line of a step within the limits, how a step is refused, and computations one after another.
use Rattle.std.specs.Prelude.{◌≡◌, ℕ, ◌+◌, ◌≤◌, ◌⊎◌, length, ⊤, Result, Ok, Err}
use Rattle.digit_tuple.specs.Letters.{product, IsAlphabet, IsTooLarge}
use Rattle.digit_tuple.specs.Steps.{Step, StepLog, with_line}
use Rattle.digit_tuple.specs.Width.{HasApart, HasWidth}
use Rattle.digit_tuple.specs.declared.step_fault.StepFault.{StepFault}
use Rattle.digit_tuple.specs.declared.step_fault.StepFault.TheVariants as faults
use Rattle.digit_tuple.specs.declared.steps.StepLine.{StepLine}

-- a step was done after the others
pub record IsDone (old : StepLog) (IsStep : StepLine → Type 0) (new : StepLog) : Type 0 where
  pub line : StepLine
  pub step : IsStep line
  pub new_is : new ≡ with_line old line

-- the next step passes the limit of letters, or that of states, or memory ran out
abbrev pub IsRefusedBy : StepLog → Type 0 → Type 0 → StepFault → Type 0
IsRefusedBy old Letters States (faults.Letters step) = (step ≡ length old.lines + 1) × Letters
IsRefusedBy old Letters States (faults.States step) = (step ≡ length old.lines + 1) × States
IsRefusedBy old Letters States faults.Memory = ⊤

-- The line of a step within the limits whose result has so many states. Its width is the number of words over its letters of which
-- no two are alike.
pub record IsLineOf (limit : ℕ) (step : Step) (states : ℕ) (line : StepLine) : Type 0 where
  pub alphabet : IsAlphabet step.sizes
  pub kind_is : line.kind ≡ step.kind
  pub width : HasWidth step.alike (product step.sizes) line.width
  pub size_is : line.size ≡ states
  pub small : line.size ≤ line.width
  pub within : line.width ≤ limit

-- the step has too many letters or tracks
abbrev pub ExceedsLetters : Step → Type 0
ExceedsLetters step = IsTooLarge step.sizes

-- or its width passes the limit: there are limit + 1 words over its letters of which no two are alike
pub record ExceedsWidth (limit : ℕ) (step : Step) : Type 0 where
  pub alphabet : IsAlphabet step.sizes
  pub apart : HasApart step.alike (product step.sizes) (limit + 1)

-- One computation after another: the next goes on with what the first made, or the fault of the first is that of both.
abbrev pub Then : {A B E : Type 0} → (StepLog → Result A E → StepLog → Type 0) → (A → StepLog → Result B E → StepLog → Type 0) → StepLog → Result B E → StepLog → Type 0
Then first next old result new =
    ((a : _) × (mid : StepLog) × first old (Ok a) mid × next a mid result new)
    ⊎ ((fault : _) × first old (Err fault) new × (result ≡ Err fault))
