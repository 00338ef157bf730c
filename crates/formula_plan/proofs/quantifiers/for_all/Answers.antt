use Rattle.std.proofs.Common.{sym}
use Rattle.formula_parse.specs.Views.{names_view}
use Rattle.term_plans.specs.Makings.{plan_at}
use Rattle.formula_plan.proofs.FormulasMade.{bare_answers, every_does}
use Rattle.formula_plan.proofs.quantifiers.for_all.Goals as goal

pub returns-then-not-has_any-clause-plan : goal.returns-then-not-has_any-clause-plan
returns-then-not-has_any-clause-plan c =
    bare_answers c.project_all.result c.args.planner.now c.project_all.new.planner (plan_at c.args.planner.now.plans c.args.place) (names_view c.args.variables.now) c.args.free.now
    c.requires.free (sym c.if-not-has_any.ensures) c.project_all.ensures.plan

pub returns-clause-plan : goal.returns-clause-plan
returns-clause-plan c =
    every_does c.args.planner.now c.complement.new.planner c.project_all-2.new.planner c.complement-2.new.planner c.in_ok-inside.inside c.in_ok-projected.projected c.in_ok-outside.outside
    (plan_at c.args.planner.now.plans c.args.place) (names_view c.args.variables.now) c.args.free.now c.requires.free
    (sym c.if-not-has_any.ensures) c.in_ok-inside.ensures c.in_ok-projected.ensures.plan c.in_ok-outside.ensures
