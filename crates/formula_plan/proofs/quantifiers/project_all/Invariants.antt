use Rattle.std.proofs.Common.{length}
use Rattle.formula_parse.specs.Views.{names_view}
use Rattle.term_plans.specs.Makings.{plan_at}
use Rattle.formula_plan.proofs.FormulasMade.{IsProjectedSoFar}
use Rattle.formula_plan.proofs.quantifiers.project_all.Given as goal

abbrev pub invariant-loop-variable : goal.invariant-loop-variable
invariant-loop-variable l =
    IsProjectedSoFar l.initial.planner l.planner l.to (plan_at l.initial.planner.plans l.initial.place) (names_view l.variables) (names_view l.rest) l.initial.free l.free

abbrev pub decreases-loop-variable : goal.decreases-loop-variable
decreases-loop-variable l = length l.rest
