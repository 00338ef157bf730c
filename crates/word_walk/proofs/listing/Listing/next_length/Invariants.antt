use Rattle.std.proofs.Common.{◌≡◌, ℕ, ◌+◌, ◌<◌, ◌≤◌, false}
use Rattle.word_walk.specs.Levels.{lives}
use Rattle.word_walk.proofs.listing.Listing.next_length.Given as goal

abbrev pub invariant-loop-more : goal.invariant-loop-more
invariant-loop-more l = record {
  same : l.self.dfa ≡ l.fn.self.dfa;
  none : (k : ℕ) → l.least ≤ k → k < l.least + l.more → lives l.self.dfa k 0 ≡ false;
}
