use Rattle.std.proofs.Common.{◌≡◌, ℕ, length, ◌↔◌}
use Rattle.determinise.specs.Bits.{HasBit, rows_in}
use Rattle.determinise.proofs.BitRowLemmas.{MembersHave}
use Rattle.determinise.proofs.bit_rows.unite.Given as goal

abbrev pub invariant-loop-place : goal.invariant-loop-place
invariant-loop-place l = record {
  length : length l.words.items ≡ l.room;
  bits : (place bit : ℕ) → HasBit l.words.items place bit ↔ MembersHave (rows_in l.rows) l.set l.place place bit;
}
