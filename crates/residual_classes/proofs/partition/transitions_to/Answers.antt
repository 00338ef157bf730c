use Rattle.std.proofs.Common.{ap, arith}
use Rattle.std.specs.List.{sum_by}
use Rattle.std.proofs.lemmas.List.{take_all}
use Rattle.std.proofs.lemmas.List.Sums.{sum_by_more, sum_by_more_le}
use Rattle.residual_classes.specs.ReversedTransitions.{in_degree}
use Rattle.residual_classes.proofs.partition.transitions_to.Goals as goal

pub loop-state-preserved : goal.loop-state-preserved
loop-state-preserved c small =
    let f = in_degree c.args.reversed.now in
    let states = c.args.states.now in
    let i = c.loop-state.state-index in
    omega (arith, small, c.loop-state.invariant small, sum_by_more f states i 0 c.loop-state-test.true, sum_by_more_le f states i 0 c.loop-state-test.true, c.saturating_add-transitions.ensures, c.count_to.ensures)

pub returns : goal.returns
returns c small =
    let f = in_degree c.args.reversed.now in
    let all = ap (sum_by f) (take_all c.loop-state.state-index c.args.states.now c.loop-state-test.false) in
    omega (arith, small, c.loop-state.invariant small, all, c.min.ensures)
