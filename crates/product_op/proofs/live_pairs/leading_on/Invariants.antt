use Rattle.std.proofs.Common.{◌≡◌, filter, take}
use Rattle.std.specs.Option.{IfSome}
use Rattle.product_op.specs.DeadPairs.{leads_on}
use Rattle.product_op.specs.NextRows.{IsNextRow}
use Rattle.product_op.specs.Readings.{reading_in}
use Rattle.product_op.proofs.live_pairs.leading_on.Given as goal

abbrev pub invariant-loop-letter : goal.invariant-loop-letter
invariant-loop-letter l = record {
  row : IfSome l.next (IsNextRow l.reader.dfa.now l.state);
  leading : l.leading.items ≡ filter (leads_on (reading_in l.reader) l.state) (take l.letter-index l.letters);
}
