use Rattle.std.proofs.Common.{arith}
use Rattle.word_walk.proofs.DistanceLemmas.{AreDistances-settled}
use Rattle.word_walk.proofs.distances.are_distances.Goals as goal

pub returns : goal.returns
returns c are =
    AreDistances-settled c.args.d.now c.states-states.ensures.table c.args.distances.now
    (λ q within. c.loop-state.invariant q (omega (arith, within, c.loop-state-test.false, c.loop-state.auto.state-end, c.states-states.ensures.value)))
    c.requires
