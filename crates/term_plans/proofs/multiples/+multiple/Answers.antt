use Rattle.std.proofs.Common.{arith, ◌/◌, ◌-◌}
use Rattle.term_plans.specs.Tracks.{fresh}
use Rattle.term_plans.specs.Plans.{added}
use Rattle.term_plans.specs.TermPlans.{multiple}
use Rattle.term_plans.specs.Makings.{track_view}
use Rattle.term_plans.specs.Planning.{base_made}
use Rattle.term_plans.proofs.MultiplesMade.{none_answers, once_answers, twice_answers, even_does, odd_does, within_after}
use Rattle.term_plans.proofs.multiples.+multiple.Goals as goal

pub returns-then-times-eq0 : goal.returns-then-times-eq0
returns-then-times-eq0 t c = none_answers c.no_multiple.result c.args.planner.now c.no_multiple.new.planner c.args.scale.system.now c.args.times (track_view c.args.scale.value.now) (track_view c.args.scale.product.now) c.if-times-eq0.true c.no_multiple.ensures

pub returns-then-times-eq1 : goal.returns-then-times-eq1
returns-then-times-eq1 t c = once_answers c.compared.result c.args.planner.now c.compared.new.self c.args.scale.system.now c.args.times (track_view c.args.scale.value.now) (track_view c.args.scale.product.now) c.if-times-eq1.true c.compared.ensures

pub returns-then-times-eq2 : goal.returns-then-times-eq2
returns-then-times-eq2 t c = twice_answers c.added.result c.args.planner.now c.added.new.self c.args.scale.system.now c.args.times (track_view c.args.scale.value.now) (track_view c.args.scale.product.now) c.if-times-eq2.true c.added.ensures

pub link-requires-clause-relation : goal.link-requires-clause-relation
link-requires-clause-relation t c =
    within_after c.fresh.new.self c.multiple.new.planner c.added-then-times-eq0-2.new.self c.in_ok-half.half c.in_ok-twice.twice
    (multiple (c.args.times / 2) c.args.scale.system.now (c.args.times / 2) (track_view c.args.scale.value.now) (fresh c.in_ok-fresh.field-0) c.fresh.new.self.next)
    (base_made (added c.args.scale.system.now (fresh c.in_ok-fresh.field-0) (fresh c.in_ok-fresh.field-0) (track_view c.args.scale.product.now)) c.multiple.new.planner.next)
    (c.in_ok-half.ensures (c.args.times / 2) (omega arith)) c.in_ok-twice.ensures

pub returns-then-times-eq0-2 : goal.returns-then-times-eq0-2
returns-then-times-eq0-2 t c =
    even_does c.args.planner.now c.fresh.new.self c.multiple.new.planner c.added-then-times-eq0-2.new.self c.link.new.self c.in_ok-half.half c.in_ok-twice.twice c.in_ok-linked.linked c.in_ok-fresh.field-0
    c.args.scale.system.now c.args.times (track_view c.args.scale.value.now) (track_view c.args.scale.product.now)
    c.in_ok-fresh.ensures.0 c.in_ok-fresh.ensures.1 c.in_ok-fresh.ensures.2
    (omega (arith, c.if-times-eq0.false, c.if-times-eq1.false, c.if-times-eq2.false)) c.if-times-eq0-2.true c.in_ok-half.ensures c.in_ok-twice.ensures c.in_ok-linked.ensures

pub link-requires-else-times-eq0-2-clause-relation : goal.link-requires-else-times-eq0-2-clause-relation
link-requires-else-times-eq0-2-clause-relation t c =
    within_after c.fresh.new.self c.multiple-else-times-eq0-2.new.planner c.added-else-times-eq0-2.new.self c.in_ok-less.less c.in_ok-more.more
    (multiple (c.args.times - 1) c.args.scale.system.now (c.args.times - 1) (track_view c.args.scale.value.now) (fresh c.in_ok-fresh.field-0) c.fresh.new.self.next)
    (base_made (added c.args.scale.system.now (fresh c.in_ok-fresh.field-0) (track_view c.args.scale.value.now) (track_view c.args.scale.product.now)) c.multiple-else-times-eq0-2.new.planner.next)
    (c.in_ok-less.ensures (c.args.times - 1) (omega arith)) c.in_ok-more.ensures

pub returns : goal.returns
returns t c =
    odd_does c.args.planner.now c.fresh.new.self c.multiple-else-times-eq0-2.new.planner c.added-else-times-eq0-2.new.self c.link-else-times-eq0-2.new.self c.in_ok-less.less c.in_ok-more.more c.in_ok-linked-2.linked c.in_ok-fresh.field-0
    c.args.scale.system.now c.args.times (track_view c.args.scale.value.now) (track_view c.args.scale.product.now)
    c.in_ok-fresh.ensures.0 c.in_ok-fresh.ensures.1 c.in_ok-fresh.ensures.2
    (omega (arith, c.if-times-eq0.false, c.if-times-eq1.false, c.if-times-eq2.false)) c.if-times-eq0-2.false c.in_ok-less.ensures c.in_ok-more.ensures c.in_ok-linked-2.ensures
