-- Whether the files of a language and an adder make a numeration system: the steps and laws, and what the answer says of the files.
use Rattle.std.specs.Prelude.{◌≡◌, ◌↔◌, ℕ, Bool, true, false, List, [], ◌∷◌, IsTrue, Result, Ok, Err, MatchResult, ⊤}
use Rattle.digit_tuple.specs.Automaton.{Branching, Accepts, letters_of}
use Rattle.digit_tuple.specs.Deterministic.{Automaton}
use Rattle.digit_tuple.specs.Letters.{IsWord}
use Rattle.digit_tuple.specs.Paddings.{in_order}
use Rattle.digit_tuple.specs.StepResults.{Then}
use Rattle.digit_tuple.specs.Steps.{StepLog}
use Rattle.digit_tuple.specs.declared.direction.Direction.{Direction}
use Rattle.minimise.specs.Tracked.{NamedAutomaton}
use Rattle.numeration.specs.Systems.{System, IsSystem}
use Rattle.numeration.specs.Relations.{IsAdderOf}
use Rattle.adder_check.specs.declared.admit_fault.AdmitFault.{AdmitFault}
use Rattle.adder_check.specs.declared.admit_fault.AdmitFault.TheVariants as faults
use Rattle.adder_check.specs.declared.admit_fault.Law.{Law}
use Rattle.adder_check.specs.declared.admit_fault.Law.TheVariants as laws
use Rattle.adder_check.specs.declared.user_system.UserSystem.{UserSystem}
use Rattle.adder_check.specs.AdderLaws.{ZeroLaw, SuccessorLaw, IsAddition}
use Rattle.adder_check.specs.AdderRelation.{DoesAdder, adds_in_file}
use Rattle.adder_check.specs.Faults.{Lifted}
use Rattle.endless.specs.LanguageLaws.{KeepsZeros, IsEndless, language_in, system_in}
use Rattle.adder_check.specs.LanguageSteps.{DoesFile, IsFirstLanguageFault, in_file}
use Rattle.adder_check.specs.NextSums.{DoesNextSums}
use Rattle.adder_check.specs.SuccessorPlan.{DoesSuccessor}
use Rattle.adder_check.specs.ZeroSums.{DoesZeroLaw}

-- the steps of a language's file, and then its laws, which are no steps
abbrev pub KeepsLanguage : Direction → Automaton → StepLog → Result Automaton AdmitFault → StepLog → Type 0
KeepsLanguage read_direction d old result new =
    (new ≡ old) × MatchResult result (λ kept. (kept ≡ d) × KeepsZeros (language_in read_direction d) × IsEndless (language_in read_direction d)) (IsFirstLanguageFault read_direction d)

abbrev pub DoesLanguage : Direction → Branching → Bool → StepLog → Result Automaton AdmitFault → StepLog → Type 0
DoesLanguage read_direction listed reversed = Then (Lifted (DoesFile listed reversed)) (KeepsLanguage read_direction)

-- where the law holds, the next is done; where it does not, it is the answer
abbrev pub Where : {B : Type 0} → Bool → Law → (StepLog → Result B AdmitFault → StepLog → Type 0) → StepLog → Result B AdmitFault → StepLog → Type 0
Where true law next old result new = next old result new
Where false law next old result new = (result ≡ Err (faults.NotAdmitted law)) × (new ≡ old)

-- nothing is left to do
abbrev pub IsThrough : StepLog → Result ⊤ AdmitFault → StepLog → Type 0
IsThrough old result new = (result ≡ Ok tt) × (new ≡ old)

-- the steps and the law of 0, and then those of the successor
abbrev pub DoesLaws : Direction → Automaton → Automaton → NamedAutomaton → StepLog → Result ⊤ AdmitFault → StepLog → Type 0
DoesLaws read_direction d next adder =
    Then (Lifted (DoesZeroLaw read_direction d adder)) (λ zero_law. Where zero_law laws.ZeroLaw
    (Then (Lifted (DoesNextSums read_direction adder.automaton next)) (λ next_law. Where next_law laws.SuccessorLaw IsThrough)))

-- the user's system is made of the automata
abbrev pub IsMade : Direction → Automaton → NamedAutomaton → StepLog → Result UserSystem AdmitFault → StepLog → Type 0
IsMade read_direction d adder old result new = (new ≡ old) × MatchResult result (λ user. (user.direction ≡ read_direction) × (user.language ≡ d) × (user.adder ≡ adder.automaton)) (λ _. ⊥)

-- the language, the successor, the adder, and the laws of the adder
abbrev pub DoesAdmission : Direction → Branching → Branching → Bool → StepLog → Result UserSystem AdmitFault → StepLog → Type 0
DoesAdmission read_direction language adder reversed =
    Then (DoesLanguage read_direction language reversed) (λ d. Then (Lifted (DoesSuccessor read_direction d)) (λ next. Then (Lifted (DoesAdder read_direction adder reversed (d ∷ d ∷ d ∷ [])))
    (λ sums. Then (DoesLaws read_direction d next sums) (λ _. IsMade read_direction d sums))))

-- the system whose words the file lists
pub record IsSystemOfFile (read_direction : Direction) (listed : Branching) (reversed : Bool) (s : System) : Type 0 where
  pub sizes : listed.sizes ≡ s.digits ∷ []
  pub language : (w : List ℕ) → IsTrue (s.test w) ↔ (IsWord (letters_of listed) (in_order read_direction w) × Accepts listed (in_file reversed (in_order read_direction w)))

-- the first law of an adder that does not hold
abbrev pub IsFirstAdderFault : (ℕ → ℕ → ℕ → Type 0) → AdmitFault → Type 0
IsFirstAdderFault adds (faults.NotAdmitted laws.NoZero) = ⊥
IsFirstAdderFault adds (faults.NotAdmitted laws.Endless) = ⊥
IsFirstAdderFault adds (faults.NotAdmitted laws.ZeroLaw) = ¬ ZeroLaw adds
IsFirstAdderFault adds (faults.NotAdmitted laws.SuccessorLaw) = ZeroLaw adds × ¬ SuccessorLaw adds
IsFirstAdderFault adds (faults.Letters step) = ⊤
IsFirstAdderFault adds (faults.States step) = ⊤
IsFirstAdderFault adds faults.Memory = ⊤

-- the first law of a system and its adder that does not hold
abbrev pub IsFirstFault : System → (ℕ → ℕ → ℕ → Type 0) → AdmitFault → Type 0
IsFirstFault s adds (faults.NotAdmitted laws.NoZero) = ¬ KeepsZeros s.test
IsFirstFault s adds (faults.NotAdmitted laws.Endless) = KeepsZeros s.test × ¬ IsEndless s.test
IsFirstFault s adds (faults.NotAdmitted laws.ZeroLaw) = IsSystem s × ¬ ZeroLaw adds
IsFirstFault s adds (faults.NotAdmitted laws.SuccessorLaw) = IsSystem s × ZeroLaw adds × ¬ SuccessorLaw adds
IsFirstFault s adds (faults.Letters step) = ⊤
IsFirstFault s adds (faults.States step) = ⊤
IsFirstFault s adds faults.Memory = ⊤

-- and of two files
abbrev pub IsFirstFaultOfFiles : Direction → Branching → Branching → Bool → AdmitFault → Type 0
IsFirstFaultOfFiles read_direction language adder reversed fault = (s : System) → IsSystemOfFile read_direction language reversed s → IsFirstFault s (adds_in_file read_direction s adder reversed) fault

-- the system that a user's system is
abbrev pub user_system : UserSystem → System
user_system user = system_in user.direction user.digits user.language

-- the user's system is that of the files: a numeration system, with its addition
pub record IsAdmitted (read_direction : Direction) (language adder : Branching) (reversed : Bool) (user : UserSystem) : Type 0 where
  pub direction : user.direction ≡ read_direction
  pub words : IsSystemOfFile read_direction language reversed (user_system user)
  pub system : IsSystem (user_system user)
  pub sums : IsAddition (adds_in_file read_direction (user_system user) adder reversed)
  pub adder_is : IsAdderOf read_direction (user_system user) user.adder

-- where a law does not hold, the two are not a system and its addition
abbrev pub FaultsExclude : Type 0
FaultsExclude = (read_direction : Direction) (s : System) (adder : Branching) (reversed : Bool) (law : Law) → IsFirstFault s (adds_in_file read_direction s adder reversed) (faults.NotAdmitted law)
    → ¬ (IsSystem s × IsAddition (adds_in_file read_direction s adder reversed))
