use Rattle.std.proofs.Common.{◌≡◌, length}
use Rattle.word_walk.proofs.distances.first_found.Given as goal

abbrev pub invariant-loop-state : goal.invariant-loop-state
invariant-loop-state l = length l.distances.items ≡ l.state
