-- Computations one after another have one answer where each has.
use Rattle.std.proofs.Common.{◌≡◌, ◌⊎◌, inl, inr, Result, Ok, Err, sym, ap, ◌∙◌, subst}
use Rattle.digit_tuple.specs.StepResults.{Then}
use Rattle.digit_tuple.specs.Steps.{StepLog}
use Rattle.digit_tuple.specs.declared.step_fault.StepFault.{StepFault}
use Rattle.digit_tuple.specs.declared.step_fault.StepFault.TheVariants.{Memory}
use Rattle.automaton_steps.specs.Makings.{Gives, WithSome}
use Rattle.automaton_steps.specs.OneAnswers.{AreOneAnswer, HasOneAnswer}

pub equal_value : {A E : Type 0} (a b : A) → ◌≡◌ {A = Result A E} (Ok a) (Ok b) → a ≡ b
equal_value a b same = cc

pub equal_fault : {A E : Type 0} (fault other : E) → ◌≡◌ {A = Result A E} (Err fault) (Err other) → fault ≡ other
equal_fault fault other same = cc

pub no_fault : {A E : Type 0} (a : A) (fault : E) → ◌≡◌ {A = Result A E} (Ok a) (Err fault) → ⊥
no_fault a fault same = cc

same_fault : {A B E : Type 0} (fault other : E) → ◌≡◌ {A = Result A E} (Err fault) (Err other) → ◌≡◌ {A = Result B E} (Err fault) (Err other)
same_fault fault other same = ap Err (equal_fault fault other same)

module _ {A B E : Type 0} (memory : E) (first : StepLog → Result A E → StepLog → Type 0) (next : A → StepLog → Result B E → StepLog → Type 0) (one : HasOneAnswer memory first) (more : (a : A) → HasOneAnswer memory (next a)) where
  both_done : (mid late new end : StepLog) (result other : Result B E) (a b : A) → next a mid result new → next b late other end → AreOneAnswer memory (Ok a) (Ok b) mid late → AreOneAnswer memory result other new end
  both_done mid late new end result other a b n m (inl same) =
      let over : next a late result new = subst (λ s. next a s result new) same.1 n in
      more b late new end result other (subst (λ x. next x late result new) (equal_value a b same.0) over) m
  both_done mid late new end result other a b n m (inr (inl out)) = absurd (no_fault a memory out)
  both_done mid late new end result other a b n m (inr (inr out)) = absurd (no_fault b memory out)

  first_done : (mid new end : StepLog) (result other : Result B E) (a : A) (fault : E) → other ≡ Err fault → AreOneAnswer memory (Ok a) (Err fault) mid end → AreOneAnswer memory result other new end
  first_done mid new end result other a fault is (inl same) = absurd (no_fault a fault same.0)
  first_done mid new end result other a fault is (inr (inl out)) = absurd (no_fault a memory out)
  first_done mid new end result other a fault is (inr (inr out)) = inr (inr (is ∙ same_fault fault memory out))

  second_done : (late new end : StepLog) (result other : Result B E) (b : A) (fault : E) → result ≡ Err fault → AreOneAnswer memory (Err fault) (Ok b) new late → AreOneAnswer memory result other new end
  second_done late new end result other b fault is (inl same) = absurd (no_fault b fault (sym same.0))
  second_done late new end result other b fault is (inr (inl out)) = inr (inl (is ∙ same_fault fault memory out))
  second_done late new end result other b fault is (inr (inr out)) = absurd (no_fault b memory out)

  none_done : (new end : StepLog) (result other : Result B E) (fault second : E) → result ≡ Err fault → other ≡ Err second → AreOneAnswer {Made = A} memory (Err fault) (Err second) new end → AreOneAnswer memory result other new end
  none_done new end result other fault second is was (inl same) = inl (is ∙ same_fault fault second same.0 ∙ sym was, same.1)
  none_done new end result other fault second is was (inr (inl out)) = inr (inl (is ∙ same_fault fault memory out))
  none_done new end result other fault second is was (inr (inr out)) = inr (inr (was ∙ same_fault second memory out))

  pub then_one : HasOneAnswer memory (Then first next)
  then_one old new end result other (inl (a, mid, f, n)) (inl (b, late, g, m)) = both_done mid late new end result other a b n m (one old mid late (Ok a) (Ok b) f g)
  then_one old new end result other (inl (a, mid, f, n)) (inr (fault, g, is)) = first_done mid new end result other a fault is (one old mid end (Ok a) (Err fault) f g)
  then_one old new end result other (inr (fault, f, is)) (inl (b, late, g, m)) = second_done late new end result other b fault is (one old new late (Err fault) (Ok b) f g)
  then_one old new end result other (inr (fault, f, is)) (inr (second, g, was)) = none_done new end result other fault second is was (one old new end (Err fault) (Err second) f g)

-- an answer without a step
pub gives_one : {Made : Type 0} (value : Made) → HasOneAnswer Memory (Gives value)
gives_one value old new next result other one two = inl (one.0 ∙ sym two.0, one.1 ∙ sym two.1)

-- a computation with the one value of which something is true
module _ {Value Made : Type 0} (Is : Value → Type 0) (does : Value → StepLog → Result Made StepFault → StepLog → Type 0) (one : (v w : Value) → Is v → Is w → v ≡ w) (each : (v : Value) → HasOneAnswer Memory (does v)) where
  pub some_one : HasOneAnswer Memory (WithSome Is does)
  some_one old new next result other (inl out) b = inr (inl out)
  some_one old new next result other (inr a) (inl out) = inr (inr out)
  some_one old new next result other (inr (v, is, done)) (inr (w, was, did)) =
      each w old new next result other (subst (λ x. does x old result new) (one v w is was) done) did

-- a computation, or memory runs out
pub or_memory_one : {Made : Type 0} (does : StepLog → Result Made StepFault → StepLog → Type 0) → HasOneAnswer Memory does
    → HasOneAnswer Memory (λ old result new. (result ≡ Err Memory) ⊎ does old result new)
or_memory_one does one old new next result other (inl out) b = inr (inl out)
or_memory_one does one old new next result other (inr a) (inl out) = inr (inr out)
or_memory_one does one old new next result other (inr a) (inr b) = one old new next result other a b
