use Rattle.term_plans.specs.Makings.{track_view}
use Rattle.term_plans.specs.Plans.{added}
use Rattle.term_plans.specs.TermPlans.{multiple}
use Rattle.term_plans.specs.Planning.{base_made}
use Rattle.std.proofs.Common.{arith}
use Rattle.term_plans.proofs.MultiplesMade.{parted_does, within_after}
use Rattle.term_plans.proofs.multiples.parted.Goals as goal

pub link-requires-clause-relation : goal.link-requires-clause-relation
link-requires-clause-relation c =
    within_after c.args.planner.now c.multiple.new.planner c.added.new.self c.in_ok-times.times c.in_ok-sum.sum
    (multiple c.args.divisor c.args.scale.system.now c.args.divisor (track_view c.args.scale.product.now) (track_view c.args.part.now) c.args.planner.now.next)
    (base_made (added c.args.scale.system.now (track_view c.args.part.now) (track_view c.args.rest.now) (track_view c.args.scale.value.now)) c.multiple.new.planner.next)
    (c.in_ok-times.ensures c.args.divisor (omega arith)) c.in_ok-sum.ensures

pub returns : goal.returns
returns c =
    parted_does c.args.planner.now c.multiple.new.planner c.added.new.self c.link.new.self c.in_ok-times.times c.in_ok-sum.sum c.in_ok-linked.linked c.args.scale.system.now c.args.divisor
    (track_view c.args.scale.value.now) (track_view c.args.scale.product.now) (track_view c.args.part.now) (track_view c.args.rest.now) c.in_ok-times.ensures c.in_ok-sum.ensures c.in_ok-linked.ensures
