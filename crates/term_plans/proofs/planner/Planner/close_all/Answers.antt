use Rattle.std.proofs.Common.{arith, take}
use Rattle.term_plans.specs.ArgumentPlans.{closing_all}
use Rattle.term_plans.specs.Makings.{plan_at}
use Rattle.term_plans.specs.Planning.{places_at}
use Rattle.term_plans.proofs.PlanningLemmas.{close_more, close_within}
use Rattle.term_plans.proofs.planner.Planner.close_all.Goals as goal

pub close-requires-clause-base : goal.close-requires-clause-base
close-requires-clause-base c = c.loop-one.invariant.last.within

pub close-requires-clause-placed : goal.close-requires-clause-placed
close-requires-clause-placed c =
    close_within c.args.self.now c.loop-one.self c.args.placed.now c.loop-one.one-index c.one-item.result
    (closing_all (places_at c.args.self.now.plans (take c.loop-one.one-index c.args.placed.now)) (plan_at c.args.self.now.plans c.args.base))
    (omega (arith, c.loop-one-test.true)) c.one-item.is c.requires.placed c.loop-one.invariant.adds

pub loop-one-preserved : goal.loop-one-preserved
loop-one-preserved c =
    close_more c.args.self.now c.loop-one.self c.close.new.self c.args.placed.now c.loop-one.one-index c.loop-one.closed c.in_ok-closed.closed c.one-item.result (plan_at c.args.self.now.plans c.args.base)
    (omega (arith, c.loop-one-test.true)) c.one-item.is c.requires.placed c.loop-one.invariant c.in_ok-closed.ensures
