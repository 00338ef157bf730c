use Rattle.std.proofs.Common.{take}
use Rattle.formula_plan.specs.FormulaPlanning.{operands_at, IsPrefixOf}
use Rattle.formula_plan.proofs.chains.chained.Given as goal

abbrev pub invariant-loop-operand : goal.invariant-loop-operand
invariant-loop-operand l = IsPrefixOf (operands_at l.initial.planner.plans (take l.operand-index l.operands)) l.initial.planner l.planner l.prefix
