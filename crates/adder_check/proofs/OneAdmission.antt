-- Admission has one answer.
use Rattle.std.proofs.Common.{◌≡◌, ◌⊎◌, inl, inr, ℕ, Bool, true, false, List, [], ◌∷◌, get_or, Ok, Err, refl, sym, ap, ◌∙◌, subst}
use Rattle.std.proofs.Math.Logic.{∥∥₁_prop}
use Rattle.std.specs.Coded.{Coded-set, coded_ℕ, coded_list}
use Rattle.digit_tuple.specs.Automaton.{Branching}
use Rattle.digit_tuple.specs.Deterministic.{Automaton}
use Rattle.digit_tuple.specs.Steps.{StepLog}
use Rattle.digit_tuple.specs.declared.direction.Direction.{Direction}
use Rattle.minimise.specs.Canonical.{IsCanonical}
use Rattle.minimise.specs.Tracked.{NamedAutomaton}
use Rattle.numeration.specs.Relations.{IsAdderOf}
use Rattle.numeration.specs.Systems.{IsSystem}
use Rattle.automaton_steps.specs.OneAnswers.{HasOneAnswer}
use Rattle.automaton_steps.proofs.ThenAnswers.{equal_value, no_fault, then_one}
use Rattle.adder_check.specs.declared.admit_fault.AdmitFault.{AdmitFault}
use Rattle.adder_check.specs.declared.admit_fault.AdmitFault.TheVariants as faults
use Rattle.adder_check.specs.declared.admit_fault.Law.TheVariants as laws
use Rattle.adder_check.specs.declared.user_system.UserSystem.{UserSystem}
use Rattle.adder_check.specs.AdderRelation.{DoesAdder}
use Rattle.adder_check.specs.Admission.{KeepsLanguage, DoesLanguage, IsThrough, DoesLaws, IsMade}
use Rattle.adder_check.specs.Faults.{Lifted}
use Rattle.endless.specs.LanguageLaws.{KeepsZeros, IsEndless, language_in, system_in, system_of}
use Rattle.adder_check.specs.LanguageSteps.{DoesFile, DoesReversal, IsFirstLanguageFault}
use Rattle.adder_check.specs.NextSums.{DoesNextSums}
use Rattle.adder_check.specs.OneAnswer.{AdmissionHasOneAnswer}
use Rattle.adder_check.specs.SuccessorPlan.{DoesSuccessor}
use Rattle.adder_check.specs.ZeroSums.{DoesZeroLaw}
use Rattle.adder_check.proofs.FileSystems.{own_language, own_size}
use Rattle.adder_check.proofs.OneAnswers.{then_one_where, lifted_one, where_one, through_one}
use Rattle.adder_check.proofs.OneSteps.{file_one, adder_one, successor_one, next_sums_one, zero_law_one}
use Rattle.adder_check.proofs.SystemLemmas.{laws_determine_system}
use mathlib.Core.HLevel.{is_prop→PathP}

-- what the steps of a file make
file_made : (listed : Branching) (reversed : Bool) (old new : StepLog) (d : Automaton) → DoesFile listed reversed old (Ok d) new → (d.sizes ≡ listed.sizes) × IsCanonical d
file_made listed reversed old new d (inr (f, does, none)) = absurd (no_fault d f none)
file_made listed reversed old new d (inl (read, mid, does, turns)) = by reversed turns
  where
    by : (reversed : Bool) → DoesReversal reversed read mid (Ok d) new → (d.sizes ≡ listed.sizes) × IsCanonical d
    by true turn = (turn.step.made_is.sizes ∙ does.step.made_is.sizes, turn.step.made_is.canonical)
    by false turn = subst (λ (e : Automaton). (e.sizes ≡ listed.sizes) × IsCanonical e) (sym (equal_value d read turn.0)) (does.step.made_is.sizes, does.step.made_is.canonical)

module _ (direction : Direction) (d : Automaton) where
  abbrev keeps : Type 0
  keeps = KeepsZeros (language_in direction d)

  abbrev endless : Type 0
  endless = IsEndless (language_in direction d)

  abbrev is_first : AdmitFault → Type 0
  is_first fault = IsFirstLanguageFault direction d fault

  only_memory : (fault : AdmitFault) → keeps → endless → is_first fault → fault ≡ faults.Memory
  only_memory (faults.NotAdmitted laws.NoZero) zeros long wrong = absurd (wrong zeros)
  only_memory (faults.NotAdmitted laws.Endless) zeros long wrong = absurd (wrong.1 long)
  only_memory (faults.NotAdmitted laws.ZeroLaw) zeros long wrong = absurd wrong
  only_memory (faults.NotAdmitted laws.SuccessorLaw) zeros long wrong = absurd wrong
  only_memory (faults.Letters step) zeros long wrong = absurd wrong
  only_memory (faults.States step) zeros long wrong = absurd wrong
  only_memory faults.Memory zeros long wrong = refl

  abbrev one_of : AdmitFault → AdmitFault → Type 0
  one_of e f = (e ≡ faults.Memory) ⊎ ((f ≡ faults.Memory) ⊎ (e ≡ f))

  beside_zeros : (f : AdmitFault) → ¬ keeps → is_first f → (f ≡ faults.Memory) ⊎ (faults.NotAdmitted laws.NoZero ≡ f)
  beside_zeros (faults.NotAdmitted laws.NoZero) none wrong = inr refl
  beside_zeros (faults.NotAdmitted laws.Endless) none wrong = absurd (none wrong.0)
  beside_zeros (faults.NotAdmitted laws.ZeroLaw) none wrong = absurd wrong
  beside_zeros (faults.NotAdmitted laws.SuccessorLaw) none wrong = absurd wrong
  beside_zeros (faults.Letters step) none wrong = absurd wrong
  beside_zeros (faults.States step) none wrong = absurd wrong
  beside_zeros faults.Memory none wrong = inl refl

  beside_end : (f : AdmitFault) → keeps → is_first f → (f ≡ faults.Memory) ⊎ (faults.NotAdmitted laws.Endless ≡ f)
  beside_end (faults.NotAdmitted laws.NoZero) zeros wrong = absurd (wrong zeros)
  beside_end (faults.NotAdmitted laws.Endless) zeros wrong = inr refl
  beside_end (faults.NotAdmitted laws.ZeroLaw) zeros wrong = absurd wrong
  beside_end (faults.NotAdmitted laws.SuccessorLaw) zeros wrong = absurd wrong
  beside_end (faults.Letters step) zeros wrong = absurd wrong
  beside_end (faults.States step) zeros wrong = absurd wrong
  beside_end faults.Memory zeros wrong = inl refl

  one_fault : (e f : AdmitFault) → is_first e → is_first f → one_of e f
  one_fault (faults.NotAdmitted laws.NoZero) f wrong also = inr (beside_zeros f wrong also)
  one_fault (faults.NotAdmitted laws.Endless) f wrong also = inr (beside_end f wrong.0 also)
  one_fault (faults.NotAdmitted laws.ZeroLaw) f wrong also = absurd wrong
  one_fault (faults.NotAdmitted laws.SuccessorLaw) f wrong also = absurd wrong
  one_fault (faults.Letters step) f wrong also = absurd wrong
  one_fault (faults.States step) f wrong also = absurd wrong
  one_fault faults.Memory f wrong also = inl refl

  keeps_one : HasOneAnswer faults.Memory (KeepsLanguage direction d)
  keeps_one old m n (Ok a) (Ok b) does also = inl (ap (λ x. Ok x) (does.1.0 ∙ sym also.1.0), does.0 ∙ sym also.0)
  keeps_one old m n (Ok a) (Err f) does also = inr (inr (ap (λ x. Err x) (only_memory f does.1.1 does.1.2 also.1)))
  keeps_one old m n (Err e) (Ok b) does also = inr (inl (ap (λ x. Err x) (only_memory e also.1.1 also.1.2 does.1)))
  keeps_one old m n (Err e) (Err f) does also = elim (one_fault e f does.1 also.1) [
    | inl ran_out ↦ inr (inl (ap (λ x. Err x) ran_out))
    | inr rest ↦ elim rest [
      | inl ran_out ↦ inr (inr (ap (λ x. Err x) ran_out))
      | inr same ↦ inl (ap (λ x. Err x) same, does.0 ∙ sym also.0)
    ]
  ]

language_one : (direction : Direction) (listed : Branching) (reversed : Bool) → HasOneAnswer faults.Memory (DoesLanguage direction listed reversed)
language_one direction listed reversed =
    then_one faults.Memory (Lifted (DoesFile listed reversed)) (KeepsLanguage direction) (lifted_one (DoesFile listed reversed) (file_one listed reversed)) (keeps_one direction)

-- the language is that of a numeration system
language_made : (direction : Direction) (listed : Branching) (reversed : Bool) (digits : ℕ) → listed.sizes ≡ digits ∷ [] → (old new : StepLog) (d : Automaton) → DoesLanguage direction listed reversed old (Ok d) new
    → IsSystem (system_of direction d) × (d.sizes ≡ digits ∷ [])
language_made direction listed reversed digits one old new d (inr (f, does, none)) = absurd (no_fault d f none)
language_made direction listed reversed digits one old new d (inl (made, mid, does, kept)) =
    subst (λ (e : Automaton). IsSystem (system_of direction e) × (e.sizes ≡ digits ∷ [])) (sym kept.1.0)
    ((laws_determine_system direction (get_or made.sizes 0 0) made (own_size made.sizes digits sizes) is.1.table).0 (kept.1.1, kept.1.2), sizes)
  where
    is : (made.sizes ≡ listed.sizes) × IsCanonical made
    is = file_made listed reversed old mid made does

    sizes : made.sizes ≡ digits ∷ []
    sizes = is.0 ∙ one

laws_one : (direction : Direction) (d next : Automaton) (adder : NamedAutomaton) → IsSystem (system_of direction d) → HasOneAnswer faults.Memory (DoesLaws direction d next adder)
laws_one direction d next adder system =
    then_one faults.Memory (Lifted (DoesZeroLaw direction d adder)) _ (lifted_one (DoesZeroLaw direction d adder) (zero_law_one direction d adder system))
    (λ zero_law. where_one zero_law laws.ZeroLaw _ (then_one faults.Memory (Lifted (DoesNextSums direction adder.automaton next)) _
    (lifted_one (DoesNextSums direction adder.automaton next) (next_sums_one direction adder.automaton next)) (λ next_law. where_one next_law laws.SuccessorLaw IsThrough through_one)))

-- users' systems of the same automata are one
same_user : (u v : UserSystem) → u.direction ≡ v.direction → u.language ≡ v.language → u.adder ≡ v.adder → u ≡ v
same_user u v direction language adder = λ i. record {
  digits = digits i;
  direction = direction i;
  language = language i;
  adder = adder i;
  sizes = is_prop→PathP (λ i. (language i).sizes ≡ digits i ∷ []) (λ i. Coded-set (coded_list coded_ℕ) _ _) u.sizes v.sizes i;
  is_system = is_prop→PathP (λ i. ∥ IsSystem (system_in (direction i) (digits i) (language i)) ∥₁) (λ i. ∥∥₁_prop) u.is_system v.is_system i;
  adds = is_prop→PathP (λ i. ∥ IsAdderOf (direction i) (system_in (direction i) (digits i) (language i)) (adder i) ∥₁) (λ i. ∥∥₁_prop) u.adds v.adds i;
}
  where
    digits : u.digits ≡ v.digits
    digits = ap (λ (ns : List ℕ). get_or ns 0 0) (sym u.sizes ∙ ap (λ (d : Automaton). d.sizes) language ∙ v.sizes)

made_one : (direction : Direction) (d : Automaton) (adder : NamedAutomaton) → HasOneAnswer faults.Memory (IsMade direction d adder)
made_one direction d adder old m n (Ok u) (Ok v) does also =
    inl (ap (λ x. Ok x) (same_user u v (does.1.0 ∙ sym also.1.0) (does.1.1 ∙ sym also.1.1) (does.1.2 ∙ sym also.1.2)), does.0 ∙ sym also.0)
made_one direction d adder old m n (Ok u) (Err f) does also = absurd also.1
made_one direction d adder old m n (Err e) s does also = absurd does.1

pub admission_one : AdmissionHasOneAnswer
admission_one direction language adder reversed digits one =
    then_one_where faults.Memory (DoesLanguage direction language reversed) _ (λ d. IsSystem (system_of direction d) × (d.sizes ≡ digits ∷ [])) (language_one direction language reversed)
    (λ d old mid does. language_made direction language reversed digits one old mid d does)
    (λ d made. then_one faults.Memory (Lifted (DoesSuccessor direction d)) _ (lifted_one (DoesSuccessor direction d) (successor_one direction d (system_of direction d) made.0 (own_language direction d digits made.1)))
    (λ next. then_one faults.Memory (Lifted (DoesAdder direction adder reversed (d ∷ d ∷ d ∷ []))) _ (lifted_one (DoesAdder direction adder reversed (d ∷ d ∷ d ∷ [])) (adder_one direction adder reversed (d ∷ d ∷ d ∷ [])))
    (λ sums. then_one faults.Memory (DoesLaws direction d next sums) _ (laws_one direction d next sums made.0) (λ done. made_one direction d sums))))
