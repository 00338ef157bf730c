-- The lines so far, at the place of the walk.
use Rattle.std.proofs.Common.{◌≡◌, length}
use Rattle.digit_tuple.specs.Deterministic.{accepts_of}
use Rattle.listings.proofs.NextLemmas.{AreSoFar}
use Rattle.listings.proofs.listed_lines.next_lines.Given as goal

abbrev pub invariant-loop-left : goal.invariant-loop-left
invariant-loop-left l = record {
  same : l.walk.listing ≡ l.initial.walk.listing;
  room : length l.places.items ≡ length l.alphabet;
  far : AreSoFar (accepts_of l.initial.walk.listing) l.sets l.initial.walk.place l.bounds l.walk.place l.left l.lines.items;
}

abbrev pub decreases-loop-left : goal.decreases-loop-left
decreases-loop-left l = l.left
