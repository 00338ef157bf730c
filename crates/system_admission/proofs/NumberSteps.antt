-- The steps of a system's numbers are done only where three tracks have an alphabet.
use Rattle.std.proofs.Common.{Bool, Result, Ok, Err, refl, ap, ◌∙◌, inl, inr}
use Rattle.digit_tuple.specs.Automaton.{Branching}
use Rattle.digit_tuple.specs.Deterministic.{Automaton}
use Rattle.digit_tuple.specs.Steps.{StepLog}
use Rattle.digit_tuple.specs.declared.direction.Direction.{Direction}
use Rattle.digit_tuple.specs.declared.step_fault.StepFault.{StepFault}
use Rattle.automaton_steps.proofs.ThenAnswers.{equal_fault, no_fault}
use Rattle.adder_check.specs.Admission.{DoesAdmission, DoesLanguage}
use Rattle.adder_check.specs.Faults.{fault_of}
use Rattle.endless.specs.LanguageLaws.{KeepsZeros, IsEndless, language_in}
use Rattle.adder_check.specs.LanguageSteps.{DoesFile, IsFirstLanguageFault}
use Rattle.adder_check.specs.declared.admit_fault.AdmitFault.{AdmitFault}
use Rattle.adder_check.specs.declared.user_system.UserSystem.{UserSystem}
use Rattle.system_admission.specs.Admissions.{StopsAtLanguage}

-- the file of a language is read and keeps the laws, or not
module _ (direction : Direction) (listed : Branching) (reversed : Bool) (old mid : StepLog) where
  pub file_refused : (fault : StepFault) → DoesFile listed reversed old (Err fault) mid → DoesLanguage direction listed reversed old (Err (fault_of fault)) mid
  file_refused fault does = inr (fault_of fault, (fault, does, refl), refl)

  pub language_refused : (d : Automaton) (fault : AdmitFault) → DoesFile listed reversed old (Ok d) mid → IsFirstLanguageFault direction d fault → DoesLanguage direction listed reversed old (Err fault) mid
  language_refused d fault does wrong = inl (d, mid, does, (refl, wrong))

  pub language_done : (d : Automaton) → DoesFile listed reversed old (Ok d) mid → KeepsZeros (language_in direction d) → IsEndless (language_in direction d) → DoesLanguage direction listed reversed old (Ok d) mid
  language_done d does keeps endless = inl (d, mid, does, (refl, (refl, keeps, endless)))

-- what stops at the language stops so whatever the adder is
pub stops_admission : (direction : Direction) (language adder : Branching) (reversed : Bool) (old new : StepLog) (result : Result UserSystem AdmitFault) → StopsAtLanguage direction language reversed old result new
    → DoesAdmission direction language adder reversed old result new
stops_admission direction language adder reversed old new result (inl (next, mid, does, none)) = absurd none
stops_admission direction language adder reversed old new result (inr (fault, inl (d, mid, words, next), is)) = inl (d, mid, words, inr (fault, next, is))
stops_admission direction language adder reversed old new result (inr (fault, inr (other, words, same), is)) = inr (other, words, is ∙ ap (λ (f : AdmitFault). Err f) (equal_fault fault other same))

-- and gives no system
pub not_stopped : (direction : Direction) (language : Branching) (reversed : Bool) (old new : StepLog) (user : UserSystem) → StopsAtLanguage direction language reversed old (Ok user) new → ⊥
not_stopped direction language reversed old new user (inl (next, mid, does, none)) = none
not_stopped direction language reversed old new user (inr (fault, does, is)) = no_fault user fault is
