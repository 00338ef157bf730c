use Rattle.std.proofs.Common.{◌≡◌, ℕ, ◌<◌, length, slice_index_or}
use Rattle.constants.specs.WordCounts.{capped, words_at}
use Rattle.constants.proofs.word_counts.first_row.Given as goal

abbrev pub invariant-loop-state : goal.invariant-loop-state
invariant-loop-state l = record {
  long : length l.row.items ≡ l.state;
  counts : (q : ℕ) → q < l.state → slice_index_or l.row.items q 0 ≡ capped (words_at l.direction l.language 0 q);
}
