use Rattle.std.proofs.Common.{◌≡◌, ℕ, ◌↔◌, ◌⊎◌}
use Rattle.std.specs.Int.{bit_at}
use Rattle.determinise.specs.Bits.{HasBit, rows_in}
use Rattle.determinise.proofs.BitRowLemmas.{RowsHave}
use Rattle.determinise.proofs.bit_rows.set_rows.Given as goal

abbrev pub invariant-loop-rest : goal.invariant-loop-rest
invariant-loop-rest l = record {
  part : (k : ℕ) → bit_at l.rest k ≡ 1 → bit_at l.members k ≡ 1;
  are : (place bit : ℕ) → HasBit l.words place bit ↔ (HasBit l.initial.words place bit ⊎ RowsHave (rows_in l.rows) l.first l.members l.rest place bit);
}

abbrev pub decreases-loop-rest : goal.decreases-loop-rest
decreases-loop-rest l = l.rest
