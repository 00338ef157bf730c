use Rattle.formula_parse.specs.Views.{formula_view, names_view}
use Rattle.term_plans.specs.Makings.{plan_at}
use Rattle.formula_plan.specs.FactPlanning.{headers_of}
use Rattle.formula_plan.proofs.FormulasMade.{infinite_none, infinite_more}
use Rattle.formula_plan.proofs.quantifiers.for_infinitely_many.Goals as goal

pub loop-last-init : goal.loop-last-init
loop-last-init c =
    infinite_none ((headers_of c.args.binding.headers.now).of_variable (formula_view c.args.binding.formula.now)) c.args.planner.now c.args.place (names_view c.args.binding.variables.now) c.args.free.now c.requires.place c.requires.free

pub loop-last-preserved : goal.loop-last-preserved
loop-last-preserved c =
    infinite_more ((headers_of c.args.binding.headers.now).of_variable (formula_view c.args.binding.formula.now)) c.args.planner.now c.loop-last.planner c.infinitely_where.new.planner c.loop-last.to c.in_ok-to.to
    (plan_at c.args.planner.now.plans c.args.place) (names_view c.args.binding.variables.now) c.loop-last.rest.now c.in-Some.before.now c.in-Some.last.now c.args.free.now c.loop-last.free c.infinitely_where.new.free
    c.in-Some.ensures.cases.0 c.loop-last.invariant c.in_ok-to.ensures.plan c.in_ok-to.ensures.names
