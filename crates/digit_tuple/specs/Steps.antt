-- Steps, and those that were done under a limit.
use Rattle.std.specs.Prelude.{ℕ, List, [], ◌∷◌, ◌++◌}
use Rattle.digit_tuple.specs.declared.kind.Kind.{Kind}
use Rattle.digit_tuple.specs.declared.steps.StepLine.{StepLine}

-- A step: its kind, the sizes of its tracks, and which words have one value for it.
pub record Step : Type 1 where
  pub kind : Kind
  pub sizes : List ℕ
  pub alike : List ℕ → List ℕ → Type 0

-- the limit, and the steps in order
pub record StepLog : Type 0 where
  pub limit : ℕ
  pub lines : List StepLine

-- the steps with one more after them
abbrev pub with_line : StepLog → StepLine → StepLog
with_line log line = record { limit = log.limit; lines = log.lines ++ line ∷ [] }

-- the steps with more of them after them
abbrev pub with_lines : StepLog → List StepLine → StepLog
with_lines log lines = record { limit = log.limit; lines = log.lines ++ lines }
