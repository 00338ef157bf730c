use Rattle.std.proofs.Common.{◌≡◌, ℕ, ◌<◌, true, get_or}
use Rattle.digit_tuple.specs.Deterministic.{accepting_of, transitions_of}
use Rattle.word_walk.specs.Distances.{fits}
use Rattle.word_walk.proofs.distances.are_distances.Given as goal

abbrev pub invariant-loop-state : goal.invariant-loop-state
invariant-loop-state l = (q : ℕ) → q < l.state → fits l.distances (accepting_of l.d q) (transitions_of l.d q) (get_or l.distances q 0) ≡ true
