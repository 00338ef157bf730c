use Rattle.std.proofs.Common.{ℕ, List}
use Rattle.product_op.specs.NextRows.{AreNextRows}
use Rattle.product_op.specs.Readings.{automata_in, readings_in}
use Rattle.product_op.proofs.ReaderLemmas.{LeadTo}
use Rattle.product_op.proofs.next_row.next_by_rows.Given as goal

abbrev pub invariant-loop-place : goal.invariant-loop-place
invariant-loop-place l = (key : List ℕ) → AreNextRows (automata_in (readings_in l.readers)) key l.rows → LeadTo (readings_in l.readers) key l.letter l.next l.place
