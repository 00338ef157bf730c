use Rattle.std.proofs.Common.{ℕ, ◌<◌, ◌^◌, ◌∙◌, subst}
use Rattle.formula_parse.specs.Views.{formula_view}
use Rattle.formula_plan.specs.FormulaPlans.{plan_of}
use Rattle.formula_plan.specs.FactPlanning.{headers_of}
use Rattle.term_plans.proofs.PlanningLemmas.{plan_there}
use Rattle.formula_plan.proofs.planning.plan.Goals as goal

pub returns : goal.returns
returns c = record {
  plan = plan_there (record { alloc = c.args.alloc; plans = c.new.result; next = 0 }) c.planned.new.planner c.in_ok-last.last (plan_of (headers_of c.args.headers.now) (formula_view c.args.formula.now) 0)
      c.new.ensures c.in_ok-last.ensures.plan;
  few = subst (λ (n : ℕ). n < 2 ^ 64) (c.next_fresh.ensures ∙ c.in_ok-last.ensures.plan.next) c.next_fresh.type_inv;
}
