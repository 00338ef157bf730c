use Rattle.std.proofs.Common.{◌≡◌, take}
use Rattle.std.specs.Option.{IfSome}
use Rattle.product_op.specs.NextRows.{AreNextRows}
use Rattle.product_op.specs.Readings.{automata_in, readings_in}
use Rattle.product_op.specs.DeadPairs.{live_pair_after}
use Rattle.product_op.proofs.LeadingLemmas.{transitions_by}
use Rattle.product_op.proofs.live_pairs.LivePairs.push_transitions.Given as goal

abbrev pub invariant-loop-letter : goal.invariant-loop-letter
invariant-loop-letter l = record {
  transitions : l.out ≡ transitions_by (live_pair_after l.self.op (readings_in l.self.readers.now) l.key) (take l.letter-index l.letters);
  rows : IfSome l.rows (λ all. AreNextRows (automata_in (readings_in l.self.readers.now)) l.key all.items);
}
