use Rattle.formula_parse.specs.Views.{term_view, relation_view}
use Rattle.term_plans.proofs.PlanningLemmas.{within_later}
use Rattle.formula_plan.proofs.FactsMade.{compared_does}
use Rattle.formula_plan.proofs.comparisons.values_compared.Goals as goal

pub returns : goal.returns
returns c =
    compared_does c.args.planner.now c.term.new.planner c.term-2.new.planner c.compared.new.self c.close.new.self c.close-2.new.self c.in_ok-left.left c.in_ok-right.right c.in_ok-base.base c.in_ok-half.half c.in_ok-closed.closed
    c.args.system.now (relation_view c.args.relation) (term_view c.args.first.now) (term_view c.args.second.now)
    c.in_ok-left.ensures c.in_ok-right.ensures c.in_ok-base.ensures c.in_ok-half.ensures c.in_ok-closed.ensures

pub close-requires-clause-base : goal.close-requires-clause-base
close-requires-clause-base c = c.in_ok-base.ensures.last.within

pub close-requires-clause-placed : goal.close-requires-clause-placed
close-requires-clause-placed c =
    within_later c.term-2.new.planner.plans c.compared.new.self.plans _ c.in_ok-left.left.relation c.in_ok-base.ensures.adds
    (within_later c.term.new.planner.plans c.term-2.new.planner.plans _ c.in_ok-left.left.relation c.in_ok-right.ensures.adds c.in_ok-left.ensures.within)

pub close-requires-2-clause-base : goal.close-requires-2-clause-base
close-requires-2-clause-base c = c.in_ok-half.ensures.last.within

pub close-requires-2-clause-placed : goal.close-requires-2-clause-placed
close-requires-2-clause-placed c =
    within_later c.compared.new.self.plans c.close.new.self.plans _ c.in_ok-right.right.relation c.in_ok-half.ensures.adds
    (within_later c.term-2.new.planner.plans c.compared.new.self.plans _ c.in_ok-right.right.relation c.in_ok-base.ensures.adds c.in_ok-right.ensures.within)
