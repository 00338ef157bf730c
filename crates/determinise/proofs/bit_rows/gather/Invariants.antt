use Rattle.std.proofs.Common.{◌≡◌, length, take}
use Rattle.determinise.specs.Bits.{AreGathered, rows_in}
use Rattle.determinise.proofs.bit_rows.gather.Given as goal

abbrev pub invariant-loop-state : goal.invariant-loop-state
invariant-loop-state l = record {
  length : length l.words.items ≡ l.room;
  bits : AreGathered (rows_in l.rows) (take l.state-index l.set) l.words.items;
}
