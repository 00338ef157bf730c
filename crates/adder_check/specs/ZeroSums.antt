-- The sums of numbers with 0, by two steps.
use Rattle.std.specs.Prelude.{◌≡◌, ◌⊎◌, ℕ, Bool, List, [], ◌∷◌, IsTrue, Result, Err}
use Rattle.digit_tuple.specs.Deterministic.{Automaton}
use Rattle.digit_tuple.specs.StepResults.{Then}
use Rattle.digit_tuple.specs.Steps.{StepLog}
use Rattle.digit_tuple.specs.declared.direction.Direction.{Direction}
use Rattle.digit_tuple.specs.declared.step_fault.StepFault.{StepFault}
use Rattle.digit_tuple.specs.declared.step_fault.StepFault.TheVariants as steps
use Rattle.minimise.specs.Canonical.{IsCanonical}
use Rattle.minimise.specs.Tracked.{NamedAutomaton}
use Rattle.numeration.specs.Relations.{IsZeroOf, IsEqualityOf}
use Rattle.numeration.specs.Systems.{System}
use Rattle.num_system.specs.SuccessorSteps.{name_y}
use Rattle.adder_check.specs.BothForSome.{DoesBothForSome}
use Rattle.adder_check.specs.Faults.{DecidesSame}
use Rattle.endless.specs.LanguageLaws.{system_of}

-- the automaton on the one track y
abbrev pub on_y : Automaton → NamedAutomaton
on_y zero = record { names = name_y ∷ []; automaton = zero }

-- the canonical automata of 0 and of equal numbers
pub record AreZeroAndEquality (direction : Direction) (s : System) (zero equal : Automaton) : Type 0 where
  pub zero_is : IsZeroOf direction s zero
  pub zero_canonical : IsCanonical zero
  pub equal_is : IsEqualityOf direction s equal
  pub equal_canonical : IsCanonical equal

-- memory ran out before a step, or the steps of what the adder and 0 on y say together for some y are done, and whether these are the equal numbers
abbrev pub DoesZeroLaw : Direction → Automaton → NamedAutomaton → StepLog → Result Bool StepFault → StepLog → Type 0
DoesZeroLaw direction d adder old result new =
    ((result ≡ Err steps.Memory) × (new ≡ old))
    ⊎ ((zero : Automaton) × (equal : Automaton) × AreZeroAndEquality direction (system_of direction d) zero equal
    × Then (DoesBothForSome direction name_y adder (on_y zero)) (λ sums. DecidesSame sums.automaton equal) old result new)

-- the second number is a sum of the first with 0
abbrev pub IsZeroSum : (List ℕ → Bool) → List ℕ → Type 0
IsZeroSum test ns = (x : ℕ) × (z : ℕ) × (ns ≡ x ∷ z ∷ []) × IsTrue (test (x ∷ 0 ∷ z ∷ []))
