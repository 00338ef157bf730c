use Rattle.std.proofs.Common.{true, sym, ap, subst}
use Rattle.formula_parse.specs.Views.{formula_view}
use Rattle.term_plans.specs.Makings.{plan_at}
use Rattle.term_plans.specs.Planning.{Does}
use Rattle.formula_plan.specs.FactPlanning.{headers_of}
use Rattle.formula_plan.specs.FormulaPlanning.{infinitely_if}
use Rattle.formula_plan.specs.OwnNames.{has_name}
use Rattle.term_plans.proofs.PlanningLemmas.{does_none}
use Rattle.formula_plan.proofs.OwnTracks.{without_none}
use Rattle.formula_plan.proofs.quantifiers.infinitely_where.Goals as goal

pub returns-then-not-has-clause-names : goal.returns-then-not-has-clause-names
returns-then-not-has-clause-names c = λ n. ap (λ l. has_name l n) (sym (without_none c.args.name.now c.args.free.now (sym c.if-not-has.ensures)))

pub returns-then-not-has-clause-plan : goal.returns-then-not-has-clause-plan
returns-then-not-has-clause-plan c =
    let planner = c.args.planner.now in
    let name = c.args.name.now in
    let system = (headers_of c.args.binding.headers.now).of_variable (formula_view c.args.binding.formula.now) name in
    subst (λ b. Does planner planner c.args.place (infinitely_if b system name (plan_at planner.plans c.args.place) planner.next)) c.if-not-has.ensures (does_none planner c.args.place c.requires)

pub returns-clause-plan : goal.returns-clause-plan
returns-clause-plan c =
    let planner = c.args.planner.now in
    let name = c.args.name.now in
    let p = plan_at planner.plans c.args.place in
    let new = c.for_infinitely.new.planner in
    let system = (headers_of c.args.binding.headers.now).of_variable (formula_view c.args.binding.formula.now) name in
    subst (λ b. Does planner new c.in_ok-made.made (infinitely_if b system name p planner.next)) c.if-not-has.ensures
    (subst (λ s. Does planner new c.in_ok-made.made (infinitely_if true s name p planner.next)) c.in_ok-system.ensures c.in_ok-made.ensures)
