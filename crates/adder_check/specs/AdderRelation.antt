-- The relation of an adder's file, and the laws that it is to meet.
use Rattle.std.specs.Prelude.{ℕ, Bool, List, [], ◌∷◌, Result}
use Rattle.digit_tuple.specs.Automaton.{Branching, Accepts, letters_of}
use Rattle.digit_tuple.specs.Deterministic.{Automaton}
use Rattle.digit_tuple.specs.Letters.{IsWord}
use Rattle.digit_tuple.specs.Paddings.{in_order}
use Rattle.digit_tuple.specs.StepResults.{Then}
use Rattle.digit_tuple.specs.Steps.{StepLog}
use Rattle.digit_tuple.specs.declared.direction.Direction.{Direction}
use Rattle.digit_tuple.specs.declared.step_fault.StepFault.{StepFault}
use Rattle.minimise.specs.Tracked.{NamedAutomaton}
use Rattle.numeration.specs.Systems.{System}
use Rattle.numeration.specs.Representation.{Represents}
use Rattle.num_system.specs.SuccessorSteps.{name_x, name_y}
use Rattle.automaton_steps.specs.Makings.{DoesStep}
use Rattle.automaton_steps.specs.PadSteps.{pad_step}
use Rattle.automaton_steps.specs.ValiditySteps.{valid_step}
use Rattle.adder_check.specs.LanguageSteps.{in_file, DoesFile}

-- the names of the adder's tracks, x, y and z
abbrev pub name_z : List ℕ
name_z = 122 ∷ []

abbrev pub adder_names : List (List ℕ)
adder_names = name_x ∷ name_y ∷ name_z ∷ []

abbrev pub three_of : System → List System
three_of s = s ∷ s ∷ s ∷ []

-- some word that represents the numbers is one of the file's
abbrev pub HoldsInFile : Direction → System → Branching → Bool → List ℕ → Type 0
HoldsInFile direction s listed reversed ns = (v : List ℕ) × IsWord (letters_of listed) v × Represents (three_of s) (in_order direction v) ns × Accepts listed (in_file reversed v)

-- the relation of the file
abbrev pub adds_in_file : Direction → System → Branching → Bool → ℕ → ℕ → ℕ → Type 0
adds_in_file direction s listed reversed x y z = HoldsInFile direction s listed reversed (x ∷ y ∷ z ∷ [])

-- the steps read, reverse where words are of the other direction, pad and valid
abbrev pub DoesAdder : Direction → Branching → Bool → List Automaton → StepLog → Result NamedAutomaton StepFault → StepLog → Type 0
DoesAdder direction listed reversed languages =
    Then (DoesFile listed reversed) (λ read. Then (DoesStep (pad_step direction read))
    (λ closed. DoesStep (valid_step languages (record { names = adder_names; automaton = closed }))))
