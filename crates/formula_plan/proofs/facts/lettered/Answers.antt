use Rattle.std.proofs.Common.{subst, w32}
use Rattle.std.proofs.lemmas.Int.{to_z-of_z}
use Rattle.formula_parse.specs.Views.{index_view, relation_view}
use Rattle.term_plans.specs.Plans.{lettered}
use Rattle.term_plans.specs.Planning.{Does, base_made, tracks_in}
use Rattle.formula_plan.specs.FactPlanning.{headers_of, index_plans}
use Rattle.formula_plan.proofs.FactsMade.{still_there, base_does}
use Rattle.formula_plan.proofs.facts.lettered.Goals as goal

pub returns : goal.returns
returns c =
    base_does c.args.planner.now c.indices.new.planner c.lettered.new.self c.close_all.new.self c.in_ok-placed.placed.items c.deref.result.now c.deref-2.result.now c.in_ok-base.base c.in_ok-closed.closed
    (index_plans (headers_of c.args.headers.now) (index_view c.args.index.now) c.args.planner.now.next) (λ ts. lettered c.args.index.now.word ts (relation_view c.args.relation) c.args.letter)
    c.deref.ensures.value c.deref-2.ensures.value c.in_ok-placed.ensures
    (subst (λ l. Does c.indices.new.planner c.lettered.new.self c.in_ok-base.base (base_made (lettered c.args.index.now.word (tracks_in c.deref.result.now) (relation_view c.args.relation) l) c.indices.new.planner.next))
    (to_z-of_z w32 c.args.letter c.ranges.letter) c.in_ok-base.ensures)
    c.in_ok-closed.ensures

pub close_all-requires-clause-base : goal.close_all-requires-clause-base
close_all-requires-clause-base c = c.in_ok-base.ensures.last.within

pub close_all-requires-clause-placed : goal.close_all-requires-clause-placed
close_all-requires-clause-placed c = still_there c.indices.new.planner c.lettered.new.self c.in_ok-placed.placed.items c.deref-2.result.now c.in_ok-base.base _ c.deref-2.ensures.value c.in_ok-placed.ensures.within c.in_ok-base.ensures
