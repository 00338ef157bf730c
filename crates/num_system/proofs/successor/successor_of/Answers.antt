use Rattle.std.proofs.Common.{rules, ◌+◌}
use Rattle.digit_tuple.specs.Letters.{product}
use Rattle.digit_tuple.specs.Width.{HasApart}
use Rattle.product_op.specs.Tracks.{joint_sizes}
use Rattle.pad_rename.specs.StayingTracks.{staying_sizes}
use Rattle.num_system.specs.SuccessorSteps.{BetweenAlike, NextAlike, at_between, at_next, order_on, name_u, name_x, name_y}
use Rattle.num_system.proofs.successor.successor_of.Goals as goal

pub returns-in_err-between-clause-states : goal.returns-in_err-between-clause-states
returns-in_err-between-clause-states c refused =
    let e = c.from_residual-in_err-between.ensures in
    let k = c.in_err-between.ensures.states in
    let apart : HasApart (BetweenAlike c.args.direction c.in_ok-chain.chain.result) (product (staying_sizes c.in_ok-chain.chain.result name_u)) (c.args.limit.most + 1) = search rules in
    at_between c.in_ok-chain.chain.result c.in_ok-chain.ensures.chain apart

pub returns-in_err-next-clause-states : goal.returns-in_err-next-clause-states
returns-in_err-next-clause-states c refused =
    let e = c.from_residual-in_err-next.ensures in
    let k = c.in_err-next.ensures.states in
    let apart : HasApart (NextAlike c.args.less.now c.in_ok-between.between.result) (product (joint_sizes (order_on c.args.less.now name_x name_y) c.in_ok-between.between.result)) (c.args.limit.most + 1) = search rules in
    at_next c.in_ok-between.between.result (c.in_ok-chain.chain.result, c.in_ok-chain.ensures.chain, c.in_ok-between.ensures.projection) apart

pub returns-clause-successor : goal.returns-clause-successor
returns-clause-successor c s is order =
    c.in_ok-next.ensures.relation c.args.direction s order
    (c.in_ok-between.ensures.relation s is (c.in_ok-chain.ensures.relation c.args.direction s is order))
