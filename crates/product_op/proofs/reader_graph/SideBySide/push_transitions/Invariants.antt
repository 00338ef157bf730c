use Rattle.std.proofs.Common.{◌≡◌, take}
use Rattle.std.specs.Option.{IfSome}
use Rattle.product_op.specs.NextRows.{AreNextRows}
use Rattle.product_op.specs.Readings.{automata_in, readings_in}
use Rattle.product_op.specs.SinkKeys.{live_key_after}
use Rattle.product_op.proofs.LeadingLemmas.{transitions_by}
use Rattle.product_op.proofs.reader_graph.SideBySide.push_transitions.Given as goal

abbrev pub invariant-loop-letter : goal.invariant-loop-letter
invariant-loop-letter l = record {
  transitions : l.out ≡ transitions_by (live_key_after l.self.rule (readings_in l.self.readers.now) l.key) (take l.letter-index l.letters);
  rows : IfSome l.rows (λ all. AreNextRows (automata_in (readings_in l.self.readers.now)) l.key all.items);
}
