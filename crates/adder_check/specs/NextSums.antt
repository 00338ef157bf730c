-- The sums of numbers with numbers one more, and the numbers one more than sums, by four steps.
use Rattle.std.specs.Prelude.{◌≡◌, ℕ, suc, Bool, List, [], ◌∷◌, IsTrue, Result}
use Rattle.digit_tuple.specs.Deterministic.{Automaton}
use Rattle.digit_tuple.specs.StepResults.{Then}
use Rattle.digit_tuple.specs.Steps.{StepLog}
use Rattle.digit_tuple.specs.declared.direction.Direction.{Direction}
use Rattle.digit_tuple.specs.declared.step_fault.StepFault.{StepFault}
use Rattle.minimise.specs.Tracked.{NamedAutomaton}
use Rattle.num_system.specs.SuccessorSteps.{name_x, name_y, order_on}
use Rattle.adder_check.specs.AdderRelation.{name_z}
use Rattle.adder_check.specs.BothForSome.{DoesBothForSome}
use Rattle.adder_check.specs.Faults.{DecidesSame}

-- the names of tracks, v and w
abbrev pub name_v : List ℕ
name_v = 118 ∷ []

abbrev pub name_w : List ℕ
name_w = 119 ∷ []

-- the adder, its tracks under three names
abbrev pub sum_on : Automaton → List ℕ → List ℕ → List ℕ → NamedAutomaton
sum_on adder first second third = record { names = first ∷ second ∷ third ∷ []; automaton = adder }

-- what `v is one more than y` and `z is a sum of x and v` say together for some v, `w is a sum of x and y` and `z is one more than w` for some w,
-- and whether the two have one language
abbrev pub DoesNextSums : Direction → Automaton → Automaton → StepLog → Result Bool StepFault → StepLog → Type 0
DoesNextSums direction adder next =
    Then (DoesBothForSome direction name_v (order_on next name_y name_v) (sum_on adder name_x name_v name_z)) (λ with_next.
    Then (DoesBothForSome direction name_w (sum_on adder name_x name_y name_w) (order_on next name_w name_z)) (λ of_sums.
    DecidesSame with_next.automaton of_sums.automaton))

-- the third number is a sum of the first with one more than the second
abbrev pub IsSumWithNext : (List ℕ → Bool) → List ℕ → Type 0
IsSumWithNext test ns = (x : ℕ) × (y : ℕ) × (z : ℕ) × (ns ≡ x ∷ y ∷ z ∷ []) × IsTrue (test (x ∷ suc y ∷ z ∷ []))

-- the third number is one more than a sum of the first two
abbrev pub IsNextOfSum : (List ℕ → Bool) → List ℕ → Type 0
IsNextOfSum test ns = (x : ℕ) × (y : ℕ) × (w : ℕ) × (ns ≡ x ∷ y ∷ suc w ∷ []) × IsTrue (test (x ∷ y ∷ w ∷ []))
