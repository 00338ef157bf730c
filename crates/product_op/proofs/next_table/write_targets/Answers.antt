use Rattle.std.proofs.Common.{arith}
use Rattle.digit_tuple.specs.declared.transitions.Transition.{Transition}
use Rattle.product_op.proofs.NextRowLemmas.{AreWritten-more}
use Rattle.product_op.proofs.next_table.write_targets.Goals as goal

pub loop-transition-preserved : goal.loop-transition-preserved
loop-transition-preserved c =
    let z : Transition = record { letter = 0; target = 0 } in
    let place = c.loop-transition.transition-index in
    AreWritten-more c.args.transitions.now place z c.args.next.now c.loop-transition.next c.requires.ascending c.loop-transition-test.true
    (omega (arith, c.requires.within place z c.loop-transition-test.true, c.loop-transition.auto.next)) c.loop-transition.invariant
