-- The automaton of a file, and the laws of a language.
use Rattle.std.specs.Prelude.{◌≡◌, ◌↔◌, ℕ, Bool, true, false, List, reverse, IsTrue, Result, MatchResult, ⊤}
use Rattle.digit_tuple.specs.Automaton.{Branching, Accepts, letters_of}
use Rattle.digit_tuple.specs.Deterministic.{Automaton, accepts_of}
use Rattle.digit_tuple.specs.Letters.{IsWord}
use Rattle.digit_tuple.specs.StepResults.{Then}
use Rattle.digit_tuple.specs.Steps.{StepLog}
use Rattle.digit_tuple.specs.declared.direction.Direction.{Direction}
use Rattle.digit_tuple.specs.declared.step_fault.StepFault.{StepFault}
use Rattle.minimise.specs.Canonical.{IsCanonical}
use Rattle.automaton_steps.specs.Makings.{DoesStep, Gives}
use Rattle.automaton_steps.specs.ReadSteps.{read_step}
use Rattle.automaton_steps.specs.ReverseSteps.{reverse_step}
use Rattle.adder_check.specs.declared.admit_fault.AdmitFault.{AdmitFault}
use Rattle.adder_check.specs.declared.admit_fault.AdmitFault.TheVariants as faults
use Rattle.adder_check.specs.declared.admit_fault.Law.TheVariants as laws
use Rattle.endless.specs.LanguageLaws.{KeepsZeros, IsEndless, language_in}

-- the word as the file has it, whose words may be of the other direction
abbrev pub in_file : Bool → List ℕ → List ℕ
in_file true w = reverse w
in_file false w = w

-- the canonical automaton of the file's words
pub record IsOfFile (listed : Branching) (reversed : Bool) (d : Automaton) : Type 0 where
  pub sizes : d.sizes ≡ listed.sizes
  pub canonical : IsCanonical d
  pub language : (w : List ℕ) → IsWord (letters_of listed) w → IsTrue (accepts_of d w) ↔ Accepts listed (in_file reversed w)

-- the step reverse, where words are of the other direction
abbrev pub DoesReversal : Bool → Automaton → StepLog → Result Automaton StepFault → StepLog → Type 0
DoesReversal true read = DoesStep (reverse_step read)
DoesReversal false read = Gives read

-- the step read, and that one after it
abbrev pub DoesFile : Branching → Bool → StepLog → Result Automaton StepFault → StepLog → Type 0
DoesFile listed reversed = Then (DoesStep (read_step listed)) (DoesReversal reversed)

-- the first law of a language that does not hold
abbrev pub IsFirstLanguageFault : Direction → Automaton → AdmitFault → Type 0
IsFirstLanguageFault direction d (faults.NotAdmitted laws.NoZero) = ¬ KeepsZeros (language_in direction d)
IsFirstLanguageFault direction d (faults.NotAdmitted laws.Endless) = KeepsZeros (language_in direction d) × ¬ IsEndless (language_in direction d)
IsFirstLanguageFault direction d (faults.NotAdmitted laws.ZeroLaw) = ⊥
IsFirstLanguageFault direction d (faults.NotAdmitted laws.SuccessorLaw) = ⊥
IsFirstLanguageFault direction d (faults.Letters step) = ⊥
IsFirstLanguageFault direction d (faults.States step) = ⊥
IsFirstLanguageFault direction d faults.Memory = ⊤

-- both laws hold, or this is the first that does not
abbrev pub ChecksLanguage : {A : Type 0} → Direction → Automaton → Result A AdmitFault → Type 0
ChecksLanguage direction d result = MatchResult result (λ _. KeepsZeros (language_in direction d) × IsEndless (language_in direction d)) (IsFirstLanguageFault direction d)
