-- What holds of the steps over numeration systems.
use Rattle.std.specs.Prelude.{◌≡◌, ℤ, List, Ok}
use Rattle.digit_tuple.specs.Deterministic.{Automaton}
use Rattle.digit_tuple.specs.Sets.{sizes_of}
use Rattle.digit_tuple.specs.Steps.{StepLog}
use Rattle.digit_tuple.specs.declared.direction.Direction.{Direction}
use Rattle.digit_tuple.specs.declared.step_fault.StepFault.TheVariants.{Memory}
use Rattle.minimise.specs.Tracked.{NamedAutomaton}
use Rattle.numeration.specs.Systems.{System, AreSystems}
use Rattle.numeration.specs.Representation as representation
use Rattle.regex_build.specs.Expression.{Expression}
use Rattle.automaton_steps.specs.Laws.{HasOneOutcome}
use Rattle.automaton_steps.specs.OneAnswers.{HasOneAnswer}
use Rattle.reg_steps.specs.RegexSteps.{regex_step}
use Rattle.reg_steps.specs.RelationSteps.{DoesRelation}
use Rattle.reg_steps.specs.Relations.{IsRelation, AreSystemLanguages}

-- over the digits of systems, and with the systems' languages, the steps make the relation's automaton
abbrev pub StepsMakeTheRelation : Type 0
StepsMakeTheRelation = (direction : Direction) (ss : List System) (languages : List Automaton) (sets : List (List ℤ)) (expression : Expression (List ℤ)) (old new : StepLog) (made : NamedAutomaton)
    → AreSystems ss → AreSystemLanguages direction ss languages → sizes_of sets ≡ representation.sizes_of ss → DoesRelation direction languages sets expression old (Ok made) new
    → IsRelation direction ss sets expression made.automaton

-- a relation has one automaton
abbrev pub OneRelation : Type 0
OneRelation = (direction : Direction) (ss : List System) (sets : List (List ℤ)) (expression : Expression (List ℤ)) (d e : Automaton)
    → IsRelation direction ss sets expression d → IsRelation direction ss sets expression e → d ≡ e

-- the step of an expression has one outcome
abbrev pub RegexHasOneOutcome : Type 0
RegexHasOneOutcome = (sets : List (List ℤ)) (expression : Expression (List ℤ)) → HasOneOutcome (regex_step sets expression)

-- the steps over numeration systems have one answer
abbrev pub RelationHasOneAnswer : Type 0
RelationHasOneAnswer = (direction : Direction) (languages : List Automaton) (sets : List (List ℤ)) (expression : Expression (List ℤ)) → HasOneAnswer Memory (DoesRelation direction languages sets expression)
