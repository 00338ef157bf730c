use Rattle.std.proofs.Common.{subst}
use Rattle.formula_parse.specs.Views.{terms_view}
use Rattle.term_plans.specs.Plans.{called}
use Rattle.term_plans.specs.ArgumentPlans.{argument_plans}
use Rattle.term_plans.specs.Planning.{DoesTerms}
use Rattle.formula_plan.specs.FactPlanning.{headers_of}
use Rattle.formula_plan.proofs.FactsMade.{still_there, base_does}
use Rattle.formula_plan.proofs.facts.called.Goals as goal

pub returns : goal.returns
returns c =
    base_does c.args.planner.now c.arguments.new.planner c.called.new.self c.close_all.new.self c.in_ok-placed.placed.items c.deref.result.now c.deref-2.result.now c.in_ok-base.base c.in_ok-closed.closed
    (argument_plans ((headers_of c.args.headers.now).of_automaton c.args.name.now) (terms_view c.args.terms.now) c.args.planner.now.next) (called c.args.name.now)
    c.deref.ensures.value c.deref-2.ensures.value
    (subst (λ ss. DoesTerms c.args.planner.now c.arguments.new.planner c.in_ok-placed.placed.items (argument_plans ss (terms_view c.args.terms.now) c.args.planner.now.next)) c.automaton_tracks-systems.ensures c.in_ok-placed.ensures)
    c.in_ok-base.ensures c.in_ok-closed.ensures

pub close_all-requires-clause-base : goal.close_all-requires-clause-base
close_all-requires-clause-base c = c.in_ok-base.ensures.last.within

pub close_all-requires-clause-placed : goal.close_all-requires-clause-placed
close_all-requires-clause-placed c = still_there c.arguments.new.planner c.called.new.self c.in_ok-placed.placed.items c.deref-2.result.now c.in_ok-base.base _ c.deref-2.ensures.value c.in_ok-placed.ensures.within c.in_ok-base.ensures
