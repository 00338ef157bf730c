use Rattle.std.proofs.Common.{ℕ, ◌<◌, ◌≤◌, length}
use Rattle.std.specs.List.{Contains}
use Rattle.std.specs.Option.{IfSome}
use Rattle.product_op.specs.NextRows.{AreNextRows}
use Rattle.product_op.specs.PairLists.{BeginsWith, HoldLive}
use Rattle.product_op.specs.Readings.{automata_in, next_key, readings_in}
use Rattle.product_op.proofs.dead_pairs.add_by_all.Given as goal

abbrev pub invariant-loop-letter : goal.invariant-loop-letter
invariant-loop-letter l = record {
  live : HoldLive l.graph.letters l.graph.op (readings_in l.graph.readers.now) l.keys;
  begins : BeginsWith l.fn.keys l.keys;
  few : length l.keys ≤ l.limit.most;
  there : (a : ℕ) → a < l.letter → Contains l.keys (next_key (readings_in l.graph.readers.now) l.key a);
  rows : IfSome l.rows (λ all. AreNextRows (automata_in (readings_in l.graph.readers.now)) l.key all.items);
}
