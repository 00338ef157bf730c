use Rattle.std.proofs.Common.{◌≡◌, None}
use Rattle.word_walk.proofs.PathLemmas.{raised_after}
use Rattle.word_walk.proofs.listing.Listing.raised.Given as goal

abbrev pub invariant-loop-at : goal.invariant-loop-at
invariant-loop-at l = record {
  same : l.self.dfa ≡ l.fn.self.dfa;
  none : raised_after l.fn.self.dfa 0 l.at l.word ≡ None;
}
