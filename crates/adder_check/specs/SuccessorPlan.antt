-- The four steps from a system's language to its successor.
use Rattle.std.specs.Prelude.{[], Result}
use Rattle.digit_tuple.specs.Deterministic.{Automaton}
use Rattle.digit_tuple.specs.StepResults.{Then}
use Rattle.digit_tuple.specs.Steps.{StepLog}
use Rattle.digit_tuple.specs.declared.direction.Direction.{Direction}
use Rattle.digit_tuple.specs.declared.step_fault.StepFault.{StepFault}
use Rattle.minimise.specs.Tracked.{NamedAutomaton}
use Rattle.product_op.specs.declared.op.Op.TheVariants.{And, AndNot}
use Rattle.num_system.specs.SuccessorSteps.{name_u, name_x, name_y, order_on}
use Rattle.automaton_steps.specs.JoinSteps.{IsJoin, join_step}
use Rattle.automaton_steps.specs.Makings.{Making, DoesStep}
use Rattle.automaton_steps.specs.OrderSteps.{order_step}
use Rattle.automaton_steps.specs.ProjectSteps.{project_step}

-- the product of x < u and u < y
abbrev pub chain_step : Automaton → Making NamedAutomaton
chain_step less = join_step And [] (order_on less name_x name_u) (order_on less name_u name_y)

-- the product of x < y and not that some u is between, the automaton alone
abbrev pub next_step : Automaton → NamedAutomaton → Making Automaton
next_step less between = record {
  step = (join_step AndNot [] (order_on less name_x name_y) between).step;
  automaton_of = λ next. next;
  IsMade = λ next. IsJoin AndNot [] (order_on less name_x name_y) between (order_on next name_x name_y);
}

-- the steps order, product, project and product
abbrev pub DoesSuccessor : Direction → Automaton → StepLog → Result Automaton StepFault → StepLog → Type 0
DoesSuccessor direction language =
    Then (DoesStep (order_step direction language)) (λ less. Then (DoesStep (chain_step less)) (λ chain.
    Then (DoesStep (project_step direction name_u chain)) (λ between. DoesStep (next_step less between))))
