-- Computations have one answer: they are done in one way, or end in one fault.
use Rattle.std.specs.Prelude.{◌≡◌, ◌⊎◌, Result, Err}
use Rattle.digit_tuple.specs.Steps.{StepLog}

-- two answers are one, with the same steps after them, unless memory ran out in one of them
abbrev pub AreOneAnswer : {Made Fault : Type 0} → Fault → (result other : Result Made Fault) (new next : StepLog) → Type 0
AreOneAnswer memory result other new next = ((result ≡ other) × (new ≡ next)) ⊎ ((result ≡ Err memory) ⊎ (other ≡ Err memory))

-- after the same steps two answers are one
abbrev pub HasOneAnswer : {Made Fault : Type 0} → Fault → (StepLog → Result Made Fault → StepLog → Type 0) → Type 0
HasOneAnswer memory does = (old new next : StepLog) (result other : Result _ _) → does old result new → does old other next → AreOneAnswer memory result other new next
