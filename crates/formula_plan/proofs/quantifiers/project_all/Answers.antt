use Rattle.formula_parse.specs.Views.{names_view}
use Rattle.term_plans.specs.Makings.{plan_at}
use Rattle.formula_plan.proofs.FormulasMade.{projected_none, projected_more}
use Rattle.formula_plan.proofs.quantifiers.project_all.Goals as goal

pub loop-variable-init : goal.loop-variable-init
loop-variable-init c = projected_none c.args.planner.now c.args.place (names_view c.args.variables.now) c.args.free.now c.requires.place c.requires.free

pub loop-variable-preserved : goal.loop-variable-preserved
loop-variable-preserved c =
    projected_more c.args.planner.now c.loop-variable.planner c.project.new.planner c.loop-variable.to c.in_ok-to.to (plan_at c.args.planner.now.plans c.args.place) (names_view c.args.variables.now)
    c.loop-variable.rest.now c.in-Some.before.now c.in-Some.variable.now c.args.free.now c.loop-variable.free c.project.new.free
    c.in-Some.ensures.cases.0 c.loop-variable.invariant c.in_ok-to.ensures.plan c.in_ok-to.ensures.names
