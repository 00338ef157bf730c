use Rattle.std.proofs.Common.{ℕ, ◌<◌, ◌≤◌, length}
use Rattle.product_op.specs.DeadMarks.{AreMarked, HoldBeside}
use Rattle.product_op.specs.LetterJoins.{letter_at}
use Rattle.product_op.specs.PairLists.{BeginsWith, HoldLive}
use Rattle.product_op.specs.Readings.{readings_in}
use Rattle.product_op.proofs.leaving.Leaving.add_targets.Given as goal

abbrev pub invariant-loop-transition : goal.invariant-loop-transition
invariant-loop-transition l = record {
  live : HoldLive l.self.graph.letters l.self.graph.op (readings_in l.self.graph.readers.now) l.keys;
  begins : BeginsWith l.fn.keys l.keys;
  few : length l.keys ≤ l.self.limit.most;
  marked : AreMarked (readings_in l.self.graph.readers.now) l.self.own l.marks.items l.keys;
  there : (i : ℕ) → i < l.transition-index → HoldBeside l.self.graph.letters (readings_in l.self.graph.readers.now) l.self.own l.self.key.now (letter_at l.row i) l.keys;
}
