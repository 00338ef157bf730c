use Rattle.std.proofs.Common.{subst}
use Rattle.formula_parse.specs.Views.{index_view, relation_view}
use Rattle.term_plans.specs.Plans.{paired}
use Rattle.term_plans.specs.Planning.{DoesTerms}
use Rattle.formula_plan.specs.FactPlanning.{headers_of, index_plans}
use Rattle.term_plans.proofs.ArgumentsMade.{are_within_later}
use Rattle.formula_plan.proofs.FactsMade.{still_there, pair_does}
use Rattle.formula_plan.proofs.facts.paired.Goals as goal

pub returns : goal.returns
returns c =
    pair_does c.args.planner.now c.indices.new.planner c.indices-2.new.planner c.paired.new.self c.close_all.new.self c.close_all-2.new.self c.in_ok-left.left.items c.deref.result.now c.deref-3.result.now
    c.in_ok-right.right.items c.deref-2.result.now c.deref-4.result.now c.in_ok-base.base c.in_ok-half.half c.in_ok-closed.closed
    (index_plans (headers_of c.args.headers.now) (index_view c.args.first.now) c.args.planner.now.next)
    (index_plans (headers_of c.args.headers.now) (index_view c.args.second.now) (index_plans (headers_of c.args.headers.now) (index_view c.args.first.now) c.args.planner.now.next).next)
    (λ ts us. paired c.args.first.now.word ts (relation_view c.args.relation) c.args.second.now.word us)
    c.deref.ensures.value c.deref-3.ensures.value c.deref-2.ensures.value c.deref-4.ensures.value c.in_ok-left.ensures
    (subst (λ k. DoesTerms c.indices.new.planner c.indices-2.new.planner c.in_ok-right.right.items (index_plans (headers_of c.args.headers.now) (index_view c.args.second.now) k)) c.in_ok-left.ensures.next c.in_ok-right.ensures)
    c.in_ok-base.ensures c.in_ok-half.ensures c.in_ok-closed.ensures

pub close_all-requires-clause-base : goal.close_all-requires-clause-base
close_all-requires-clause-base c = c.in_ok-base.ensures.last.within

pub close_all-requires-clause-placed : goal.close_all-requires-clause-placed
close_all-requires-clause-placed c =
    still_there c.indices-2.new.planner c.paired.new.self c.in_ok-left.left.items c.deref-3.result.now c.in_ok-base.base _ c.deref-3.ensures.value
    (are_within_later c.indices.new.planner.plans c.indices-2.new.planner.plans _ c.in_ok-left.left.items c.in_ok-right.ensures.adds c.in_ok-left.ensures.within) c.in_ok-base.ensures

pub close_all-requires-2-clause-base : goal.close_all-requires-2-clause-base
close_all-requires-2-clause-base c = c.in_ok-half.ensures.last.within

pub close_all-requires-2-clause-placed : goal.close_all-requires-2-clause-placed
close_all-requires-2-clause-placed c =
    still_there c.paired.new.self c.close_all.new.self c.in_ok-right.right.items c.deref-4.result.now c.in_ok-half.half _ c.deref-4.ensures.value
    (are_within_later c.indices-2.new.planner.plans c.paired.new.self.plans _ c.in_ok-right.right.items c.in_ok-base.ensures.adds c.in_ok-right.ensures.within) c.in_ok-half.ensures
