use Rattle.std.proofs.Common.{arith, ◌∙◌}
use Rattle.term_plans.specs.Tracks.{fresh}
use Rattle.term_plans.specs.TermPlans.{parted, below}
use Rattle.term_plans.specs.Makings.{track_view}
use Rattle.term_plans.proofs.MultiplesMade.{quotient_once, quotient_does, within_after}
use Rattle.term_plans.proofs.multiples.quotient.Goals as goal

pub returns-then-divisor-eq1 : goal.returns-then-divisor-eq1
returns-then-divisor-eq1 c =
    quotient_once c.compared.result c.args.planner.now c.compared.new.self c.args.scale.system.now c.args.divisor (track_view c.args.scale.value.now) (track_view c.args.scale.product.now) c.if-divisor-eq1.true c.compared.ensures

pub link-requires-clause-base : goal.link-requires-clause-base
link-requires-clause-base c =
    within_after c.fresh-3.new.self c.parted.new.planner c.below.new.planner c.in_ok-whole.whole c.in_ok-small.small
    (parted c.args.scale.system.now c.args.divisor (track_view c.args.scale.value.now) (track_view c.args.scale.product.now) (fresh c.in_ok-fresh.field-0) (fresh c.in_ok-fresh-2.field-0) c.fresh-3.new.self.next)
    (below c.args.scale.system.now c.args.divisor (fresh c.in_ok-fresh-2.field-0) (fresh c.in_ok-fresh-3.field-0) c.parted.new.planner.next)
    c.in_ok-whole.ensures c.in_ok-small.ensures

pub returns : goal.returns
returns c =
    let first_next = c.in_ok-fresh.ensures.1 in
    let second_is = c.in_ok-fresh-2.ensures.0 in
    let second_next = c.in_ok-fresh-2.ensures.1 in
    let third_is = c.in_ok-fresh-3.ensures.0 in
    let third_next = c.in_ok-fresh-3.ensures.1 in
    quotient_does c.args.planner.now c.fresh-3.new.self c.parted.new.planner c.below.new.planner c.link.new.self c.in_ok-whole.whole c.in_ok-small.small c.in_ok-linked.linked
    c.in_ok-fresh.field-0 c.in_ok-fresh-2.field-0 c.in_ok-fresh-3.field-0 c.args.scale.system.now c.args.divisor (track_view c.args.scale.value.now) (track_view c.args.scale.product.now)
    c.if-divisor-eq1.false c.in_ok-fresh.ensures.0 (omega (arith, second_is, first_next)) (omega (arith, third_is, second_next, first_next)) (omega (arith, third_next, second_next, first_next))
    (c.in_ok-fresh-3.ensures.2 ∙ c.in_ok-fresh-2.ensures.2 ∙ c.in_ok-fresh.ensures.2)
    c.in_ok-whole.ensures c.in_ok-small.ensures c.in_ok-linked.ensures
