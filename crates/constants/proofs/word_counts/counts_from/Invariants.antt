use Rattle.std.proofs.Common.{◌≡◌, ℕ, suc, ◌<◌, length, slice_index_or}
use Rattle.digit_tuple.specs.declared.direction.Direction.TheVariants.{Msd}
use Rattle.constants.specs.WordCounts.{capped, words_at, AreCounts}
use Rattle.constants.proofs.word_counts.counts_from.Given as goal

abbrev pub invariant-loop-state : goal.invariant-loop-state
invariant-loop-state l = record {
  long : length l.next.items ≡ l.state;
  counts : (n q : ℕ) → AreCounts Msd l.language n l.row → q < l.state → slice_index_or l.next.items q 0 ≡ capped (words_at Msd l.language (suc n) q);
}
