use Rattle.std.proofs.Common.{◌≡◌, ℕ, ◌<◌, length, slice_index_or}
use Rattle.digit_tuple.specs.Deterministic.{states_of}
use Rattle.digit_tuple.specs.declared.direction.Direction.TheVariants.{Lsd}
use Rattle.numeration.proofs.CountLemmas.{sum_below}
use Rattle.constants.specs.WordCounts.{capped, AreCounts}
use Rattle.constants.proofs.CountSteps.{brought}
use Rattle.constants.proofs.word_counts.counts_into.Given as goal

abbrev pub invariant-loop-state : goal.invariant-loop-state
invariant-loop-state l = record {
  long : length l.next.items ≡ states_of l.language;
  counts : (n p : ℕ) → AreCounts Lsd l.language n l.row → p < states_of l.language → slice_index_or l.next.items p 0 ≡ capped (sum_below (λ q. brought l.language n p q) l.state);
}
