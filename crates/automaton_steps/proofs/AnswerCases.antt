-- What it says that two answers are one, and how a computation after another is done.
use Rattle.std.proofs.Common.{◌≡◌, ◌≢◌, inl, inr, Result, Ok, Err, ap}
use Rattle.digit_tuple.specs.StepResults.{Then}
use Rattle.digit_tuple.specs.Steps.{StepLog}
use Rattle.automaton_steps.specs.OneAnswers.{AreOneAnswer}
use Rattle.automaton_steps.proofs.ThenAnswers.{equal_fault, equal_value, no_fault}

module _ {A E : Type 0} (memory : E) (new next : StepLog) where
  -- they are, where memory did not run out
  pub one_result : (result other : Result A E) → AreOneAnswer memory result other new next → result ≢ Err memory → other ≢ Err memory → (result ≡ other) × (new ≡ next)
  one_result result other (inl same) ample enough = same
  one_result result other (inr (inl out)) ample enough = absurd (ample out)
  one_result result other (inr (inr out)) ample enough = absurd (enough out)

  -- two values are one, with the same steps
  pub one_value : (a b : A) → AreOneAnswer memory (Ok a) (Ok b) new next → (a ≡ b) × (new ≡ next)
  one_value a b (inl same) = (equal_value a b same.0, same.1)
  one_value a b (inr (inl out)) = absurd (no_fault a memory out)
  one_value a b (inr (inr out)) = absurd (no_fault b memory out)

  -- two faults are, where memory did not run out
  pub same_fault : (fault other : E) → AreOneAnswer {Made = A} memory (Err fault) (Err other) new next → fault ≢ memory → other ≢ memory → fault ≡ other
  same_fault fault other (inl same) ample enough = equal_fault {A = A} fault other same.0
  same_fault fault other (inr (inl out)) ample enough = absurd (ample (equal_fault {A = A} fault memory out))
  same_fault fault other (inr (inr out)) ample enough = absurd (enough (equal_fault {A = A} other memory out))

  -- beside a value there is no fault but that
  pub memory_alone : (a : A) (fault : E) → AreOneAnswer memory (Ok a) (Err fault) new next → fault ≡ memory
  memory_alone a fault (inl same) = absurd (no_fault a fault same.0)
  memory_alone a fault (inr (inl out)) = absurd (no_fault a memory out)
  memory_alone a fault (inr (inr out)) = equal_fault fault memory out

-- two faults are one, unless memory ran out, where each is named in another type
pub raised_one : {A B E F : Type 0} (raise : E → F) (memory : E) (new next : StepLog) (fault other : E) → AreOneAnswer {Made = A} memory (Err fault) (Err other) new next
    → AreOneAnswer {Made = B} (raise memory) (Err (raise fault)) (Err (raise other)) new next
raised_one raise memory new next fault other (inl same) = inl (ap Err (ap raise (equal_fault fault other same.0)), same.1)
raised_one raise memory new next fault other (inr (inl out)) = inr (inl (ap Err (ap raise (equal_fault fault memory out))))
raised_one raise memory new next fault other (inr (inr out)) = inr (inr (ap Err (ap raise (equal_fault other memory out))))

-- one after the other was done: both were
pub both_done : {A B E : Type 0} (first : StepLog → Result A E → StepLog → Type 0) (next : A → StepLog → Result B E → StepLog → Type 0) (old new : StepLog) (b : B)
    → Then first next old (Ok b) new → (a : A) × (mid : StepLog) × first old (Ok a) mid × next a mid (Ok b) new
both_done first next old new b (inl done) = done
both_done first next old new b (inr (fault, failed, same)) = absurd (no_fault b fault same)
