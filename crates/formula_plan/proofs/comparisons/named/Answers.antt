use Rattle.formula_parse.specs.Views.{term_view}
use Rattle.term_plans.specs.TermPlans.{term_plan}
use Rattle.formula_plan.proofs.FactsMade.{named_does}
use Rattle.formula_plan.proofs.comparisons.named.Goals as goal

pub renamed-requires : goal.renamed-requires
renamed-requires c = c.in_ok-placed.ensures.within

pub returns : goal.returns
returns c =
    named_does c.args.planner.now c.term.new.planner c.renamed.new.planner c.in_ok-placed.placed c.in_ok-named.named c.args.system.now c.args.short.name.now
    (term_plan c.args.system.now (term_view c.args.short.term.now) c.args.planner.now.next) c.in_ok-placed.ensures c.in_ok-named.ensures
