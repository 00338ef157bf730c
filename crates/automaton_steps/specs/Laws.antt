-- Each step has one answer.
use Rattle.std.specs.Prelude.{◌≡◌, ℕ, List}
use Rattle.digit_tuple.specs.Automaton.{Branching}
use Rattle.digit_tuple.specs.Deterministic.{Automaton}
use Rattle.digit_tuple.specs.declared.direction.Direction.{Direction}
use Rattle.digit_tuple.specs.declared.step_fault.StepFault.TheVariants.{Memory}
use Rattle.minimise.specs.Tracked.{NamedAutomaton}
use Rattle.numeration.specs.Relations.{IsLanguageOf}
use Rattle.numeration.specs.Systems.{System, IsSystem}
use Rattle.product_op.specs.declared.op.Op.{Op}
use Rattle.automaton_steps.specs.Makings.{Making, DoesStep}
use Rattle.automaton_steps.specs.OneAnswers.{HasOneAnswer}
use Rattle.automaton_steps.specs.ReadSteps.{read_step}
use Rattle.automaton_steps.specs.ReverseSteps.{reverse_step}
use Rattle.automaton_steps.specs.PadSteps.{pad_step}
use Rattle.automaton_steps.specs.ValiditySteps.{valid_step, complement_step}
use Rattle.automaton_steps.specs.JoinSteps.{join_step}
use Rattle.automaton_steps.specs.ProjectSteps.{project_step}
use Rattle.automaton_steps.specs.OrderSteps.{order_step}

-- the step is done with one result and one line, or refused by one limit
abbrev pub HasOneOutcome : {Made : Type 0} → Making Made → Type 0
HasOneOutcome making = HasOneAnswer Memory (DoesStep making)

abbrev pub ReadHasOneOutcome : Type 0
ReadHasOneOutcome = (listed : Branching) → HasOneOutcome (read_step listed)

abbrev pub ReverseHasOneOutcome : Type 0
ReverseHasOneOutcome = (argument : Automaton) → HasOneOutcome (reverse_step argument)

abbrev pub PadHasOneOutcome : Type 0
PadHasOneOutcome = (direction : Direction) (argument : Automaton) → HasOneOutcome (pad_step direction argument)

abbrev pub ValidHasOneOutcome : Type 0
ValidHasOneOutcome = (languages : List Automaton) (argument : NamedAutomaton) → HasOneOutcome (valid_step languages argument)

abbrev pub JoinHasOneOutcome : Type 0
JoinHasOneOutcome = (op : Op) (languages : List Automaton) (a b : NamedAutomaton) → HasOneOutcome (join_step op languages a b)

abbrev pub ComplementHasOneOutcome : Type 0
ComplementHasOneOutcome = (languages : List Automaton) (argument : NamedAutomaton) → HasOneOutcome (complement_step languages argument)

abbrev pub ProjectHasOneOutcome : Type 0
ProjectHasOneOutcome = (direction : Direction) (track : List ℕ) (argument : NamedAutomaton) → HasOneOutcome (project_step direction track argument)

-- on the language of a system
abbrev pub OrderHasOneOutcome : Type 0
OrderHasOneOutcome = (direction : Direction) (s : System) (language : Automaton) → IsSystem s → IsLanguageOf direction s language
    → HasOneOutcome (order_step direction language)
