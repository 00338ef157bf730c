use Rattle.std.proofs.Common.{◌++◌, take}
use Rattle.formula_parse.specs.Views.{operands_view}
use Rattle.formula_plan.specs.FormulaPlans.{operand_plans}
use Rattle.formula_plan.specs.OwnNames.{own_operands, HaveSame}
use Rattle.formula_plan.specs.FactPlanning.{headers_of}
use Rattle.formula_plan.specs.FormulaPlanning.{DoesOperands}
use Rattle.formula_plan.proofs.formulas.+planned.Given as goal

abbrev pub invariant-loop-operand : goal.invariant-loop-operand
invariant-loop-operand l = record {
  made : DoesOperands l.initial.planner l.planner l.made.items (operand_plans (headers_of l.headers) (operands_view (take l.operand-index l.operand-items)) l.initial.planner.next);
  names : HaveSame l.free (l.initial.free ++ own_operands (operands_view (take l.operand-index l.operand-items)));
}
