-- What two automata say together for some value of a track, by the steps product and project.
use Rattle.std.specs.Prelude.{ℕ, List, [], Result}
use Rattle.digit_tuple.specs.StepResults.{Then}
use Rattle.digit_tuple.specs.Steps.{StepLog}
use Rattle.digit_tuple.specs.declared.direction.Direction.{Direction}
use Rattle.digit_tuple.specs.declared.step_fault.StepFault.{StepFault}
use Rattle.minimise.specs.Tracked.{NamedAutomaton}
use Rattle.product_op.specs.declared.op.Op.TheVariants.{And}
use Rattle.automaton_steps.specs.JoinSteps.{join_step}
use Rattle.automaton_steps.specs.Makings.{DoesStep}
use Rattle.automaton_steps.specs.ProjectSteps.{project_step}

abbrev pub DoesBothForSome : Direction → List ℕ → NamedAutomaton → NamedAutomaton → StepLog → Result NamedAutomaton StepFault → StepLog → Type 0
DoesBothForSome direction track a b = Then (DoesStep (join_step And [] a b)) (λ joined. DoesStep (project_step direction track joined))
