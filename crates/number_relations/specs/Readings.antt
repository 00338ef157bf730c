-- Relations read from the automata that files list: the canonical automaton, padded, and kept to the valid words.
use Rattle.std.specs.Prelude.{◌≡◌, ℕ, List, Result}
use Rattle.digit_tuple.specs.Automaton.{Branching, Accepts}
use Rattle.digit_tuple.specs.Deterministic.{Automaton}
use Rattle.digit_tuple.specs.Letters.{IsWord}
use Rattle.digit_tuple.specs.Paddings.{in_order}
use Rattle.digit_tuple.specs.StepResults.{Then}
use Rattle.digit_tuple.specs.Steps.{StepLog}
use Rattle.digit_tuple.specs.declared.direction.Direction.{Direction}
use Rattle.digit_tuple.specs.declared.step_fault.StepFault.{StepFault}
use Rattle.numeration.specs.Systems.{System}
use Rattle.numeration.specs.Representation.{Represents, letters_in}
use Rattle.automaton_steps.specs.Makings.{Making, DoesStep}
use Rattle.automaton_steps.specs.Numbered.{numbered}
use Rattle.automaton_steps.specs.PadSteps.{pad_step}
use Rattle.automaton_steps.specs.ReadSteps.{read_step}
use Rattle.automaton_steps.specs.ValiditySteps.{IsValidPart, valid_step}
use Rattle.num_system.specs.Sealed.{SystemValue}
use Rattle.num_system.specs.Tracks.{direction_of, languages_of}
use Rattle.number_relations.specs.Relations.{RelationValue, named_of}

-- some word that represents the numbers is accepted by the listed automaton
abbrev pub IsListedOf : Direction → List System → Branching → List ℕ → Type 0
IsListedOf direction ss listed ns = (w : List ℕ) × IsWord (letters_in ss) w × Represents ss (in_order direction w) ns × Accepts listed w

-- the relation over these systems whose automaton is the valid part of a closed one, its tracks under their numbers
pub record IsValidReading (systems : List SystemValue) (closed : Automaton) (r : RelationValue) : Type 0 where
  pub systems_are : r.systems ≡ systems
  pub part : IsValidPart (languages_of systems) (numbered closed) (named_of r)

-- the step valid, which makes it
abbrev pub reading_valid_step : List SystemValue → Automaton → Making RelationValue
reading_valid_step systems closed = record {
  step = (valid_step (languages_of systems) (numbered closed)).step;
  automaton_of = λ r. r.automaton;
  IsMade = IsValidReading systems closed;
}

-- the steps read, pad and valid
abbrev pub DoesReading : List SystemValue → Branching → StepLog → Result RelationValue StepFault → StepLog → Type 0
DoesReading systems listed =
    Then (DoesStep (read_step listed)) (λ read. Then (DoesStep (pad_step (direction_of systems) read)) (λ closed. DoesStep (reading_valid_step systems closed)))
