use Rattle.std.proofs.Common.{arith}
use Rattle.digit_tuple.proofs.DfaLemmas.{before_through, after_from}
use Rattle.digit_tuple.proofs.dense.place_in.Goals as goal

pub loop-low-preserved-then-transitions-middle : goal.loop-low-preserved-then-transitions-middle
loop-low-preserved-then-transitions-middle c = record {
  order = omega arith;
  within = omega arith;
  before = before_through c.args.transitions.now c.args.letter _ _ c.requires (omega arith) c.if-transitions-middle.true;
  after = c.loop-low.invariant.after;
}

pub loop-low-preserved : goal.loop-low-preserved
loop-low-preserved c = record {
  order = omega arith;
  within = omega arith;
  before = c.loop-low.invariant.before;
  after = after_from c.args.transitions.now c.args.letter _ _ c.requires (omega arith) c.if-transitions-middle.false;
}
