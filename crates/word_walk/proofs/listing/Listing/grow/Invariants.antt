use Rattle.std.proofs.Common.{◌≡◌, ◌+◌, ◌-◌, length}
use Rattle.word_walk.proofs.listing.Listing.grow.Given as goal

abbrev pub invariant-loop-self : goal.invariant-loop-self
invariant-loop-self l = l.self.dfa ≡ l.fn.self.dfa

abbrev pub decreases-loop-self : goal.decreases-loop-self
decreases-loop-self l = l.size + 1 - length l.self.levels.items
