use Rattle.std.proofs.Common.{length}
use Rattle.formula_parse.specs.Views.{formula_view, names_view}
use Rattle.term_plans.specs.Makings.{plan_at}
use Rattle.formula_plan.specs.FactPlanning.{headers_of}
use Rattle.formula_plan.proofs.FormulasMade.{IsInfiniteSoFar}
use Rattle.formula_plan.proofs.quantifiers.for_infinitely_many.Given as goal

abbrev pub invariant-loop-last : goal.invariant-loop-last
invariant-loop-last l =
    IsInfiniteSoFar ((headers_of l.binding.headers.now).of_variable (formula_view l.binding.formula.now)) l.initial.planner l.planner l.to (plan_at l.initial.planner.plans l.initial.place) (names_view l.binding.variables.now) (names_view l.rest) l.initial.free l.free

abbrev pub decreases-loop-last : goal.decreases-loop-last
decreases-loop-last l = length l.rest
