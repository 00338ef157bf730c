use Rattle.std.proofs.Common.{◌+◌, ◌-◌, ◌≤◌, length}
use Rattle.product_op.specs.DeadMarks.{AreMarks}
use Rattle.product_op.specs.PairLists.{HoldLive}
use Rattle.product_op.specs.Readings.{readings_in}
use Rattle.product_op.proofs.PairListLemmas.{AreTriedTo}
use Rattle.product_op.proofs.dead_pairs.add_dead_pairs.Given as goal

abbrev pub invariant-loop-place : goal.invariant-loop-place
invariant-loop-place l = record {
  live : HoldLive l.graph.letters l.graph.op (readings_in l.graph.readers.now) l.keys;
  marked : AreMarks (readings_in l.graph.readers.now) l.marks l.keys;
  few : length l.keys ≤ l.limit.most;
  tried : AreTriedTo l.graph.letters (readings_in l.graph.readers.now) l.keys l.place;
}

abbrev pub decreases-loop-place : goal.decreases-loop-place
decreases-loop-place l = l.limit.most + 1 - l.place
