-- Computations have one answer: with what the first makes, as those of admission, and where laws hold.
use Rattle.std.proofs.Common.{◌≡◌, inl, inr, Bool, true, false, Result, Ok, Err, sym, ap, ◌∙◌, subst}
use Rattle.digit_tuple.specs.Deterministic.{Automaton}
use Rattle.digit_tuple.specs.StepResults.{Then}
use Rattle.digit_tuple.specs.Steps.{StepLog}
use Rattle.digit_tuple.specs.declared.step_fault.StepFault.{StepFault}
use Rattle.digit_tuple.specs.declared.step_fault.StepFault.TheVariants as steps
use Rattle.digit_tuple.proofs.TruthLemmas.{same_tests}
use Rattle.automaton_steps.specs.OneAnswers.{AreOneAnswer, HasOneAnswer}
use Rattle.automaton_steps.proofs.AnswerCases.{memory_alone, one_value, raised_one}
use Rattle.automaton_steps.proofs.ThenAnswers.{then_one}
use Rattle.adder_check.specs.declared.admit_fault.AdmitFault.{AdmitFault}
use Rattle.adder_check.specs.declared.admit_fault.AdmitFault.TheVariants as faults
use Rattle.adder_check.specs.declared.admit_fault.Law.{Law}
use Rattle.adder_check.specs.Admission.{Where, IsThrough}
use Rattle.adder_check.specs.Faults.{Lifted, DecidesSame, fault_of}

-- computations one after another, of which the next has one answer where this is true of what the first makes
module _ {A B E : Type 0} (memory : E) (first : StepLog → Result A E → StepLog → Type 0) (next : A → StepLog → Result B E → StepLog → Type 0) (Holds : A → Type 0) where
  abbrev next_where : A → StepLog → Result B E → StepLog → Type 0
  next_where a old result new = Holds a × next a old result new

  then_where : ((a : A) (old new : StepLog) → first old (Ok a) new → Holds a) → (old new : StepLog) (result : Result B E) → Then first next old result new → Then first next_where old result new
  then_where made old new result (inl (a, mid, does, rest)) = inl (a, mid, does, (made a old mid does, rest))
  then_where made old new result (inr failed) = inr failed

  pub then_one_where : HasOneAnswer memory first → ((a : A) (old new : StepLog) → first old (Ok a) new → Holds a) → ((a : A) → Holds a → HasOneAnswer memory (next a)) → HasOneAnswer memory (Then first next)
  then_one_where one made more old new end result other does also =
      then_one memory first next_where one (λ a mid m n r s rest also_rest. more a rest.0 mid m n r s rest.1 also_rest.1) old new end result other (then_where made old new result does) (then_where made old end other also)

-- an answer as one of admission
module _ {A : Type 0} (does : StepLog → Result A StepFault → StepLog → Type 0) where
  ran_out : (fault : AdmitFault) (f : StepFault) → fault ≡ fault_of f → f ≡ steps.Memory → (let bad : AdmitFault → Result A AdmitFault = λ x. Err x in bad fault ≡ bad faults.Memory)
  ran_out fault f is memory = ap (λ x. Err x) (is ∙ ap fault_of memory)

  pub lifted_one : HasOneAnswer steps.Memory does → HasOneAnswer faults.Memory (Lifted does)
  lifted_one one old m n (Ok a) (Ok b) one_does also = let same = one_value steps.Memory m n a b (one old m n (Ok a) (Ok b) one_does also) in inl (ap (λ x. Ok x) same.0, same.1)
  lifted_one one old m n (Ok a) (Err fault) one_does (f, also, is) = inr (inr (ran_out fault f is (memory_alone steps.Memory m n a f (one old m n (Ok a) (Err f) one_does also))))
  lifted_one one old m n (Err fault) (Ok b) (e, one_does, is) also = inr (inl (ran_out fault e is (memory_alone steps.Memory n m b e (one old n m (Ok b) (Err e) also one_does))))
  lifted_one one old m n (Err fault) (Err other) (e, one_does, is) (f, also, also_is) =
      subst (λ (x : AdmitFault). AreOneAnswer {Made = A} faults.Memory (Err x) (Err other) m n) (sym is)
      (subst (λ (x : AdmitFault). AreOneAnswer {Made = A} faults.Memory (Err (fault_of e)) (Err x) m n) (sym also_is)
      (raised_one fault_of steps.Memory m n e f (one old m n (Err e) (Err f) one_does also)))

-- whether two are the same is reported in one way
pub decides_one : (a b : Automaton) → HasOneAnswer steps.Memory (DecidesSame a b)
decides_one a b old m n (Ok is) (Ok also) one other = inl (ap (λ x. Ok x) (same_tests is also ((λ t. other.0.1 (one.0.0 t)), (λ t. one.0.1 (other.0.0 t)))), one.1 ∙ sym other.1)
decides_one a b old m n (Ok is) (Err f) one other = absurd other
decides_one a b old m n (Err e) s one other = absurd one

pub where_one : {B : Type 0} (holds : Bool) (law : Law) (next : StepLog → Result B AdmitFault → StepLog → Type 0) → HasOneAnswer faults.Memory next → HasOneAnswer faults.Memory (Where holds law next)
where_one true law next one old m n r s does also = one old m n r s does also
where_one false law next one old m n r s does also = inl (does.0 ∙ sym also.0, does.1 ∙ sym also.1)

pub through_one : HasOneAnswer faults.Memory IsThrough
through_one old m n r s does also = inl (does.0 ∙ sym also.0, does.1 ∙ sym also.1)
