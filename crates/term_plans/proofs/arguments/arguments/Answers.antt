use Rattle.std.proofs.Common.{arith}
use Rattle.std.proofs.lemmas.List.{length-take}
use Rattle.term_plans.proofs.ArgumentsMade.{arguments_more, arguments_none, arguments_all}
use Rattle.term_plans.proofs.arguments.arguments.Goals as goal

pub loop-i-init : goal.loop-i-init
loop-i-init c = arguments_none c.args.systems.now c.args.planner.now c.new-placed.result.items c.new-placed.ensures.items

pub loop-i-preserved : goal.loop-i-preserved
loop-i-preserved c =
    arguments_more c.args.systems.now c.args.terms.now c.loop-i.i c.index-terms-i.result c.args.planner.now c.loop-i.planner c.argument.new.planner c.loop-i.placed.items c.push.new.self.items c.in_ok-one.one
    (omega (arith, c.loop-i-test.true)) c.index-terms-i.is (grind (arith, length-take)) c.loop-i.invariant c.in_ok-one.ensures c.in_ok-push.ensures.items

pub returns : goal.returns
returns c = arguments_all c.args.systems.now c.args.terms.now c.loop-i.i c.args.planner.now c.loop-i.planner c.loop-i.placed.items c.loop-i-test.false c.loop-i.invariant
