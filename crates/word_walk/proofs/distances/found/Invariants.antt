use Rattle.std.proofs.Common.{◌≡◌, ◌<◌, length}
use Rattle.std.specs.List.{All}
use Rattle.digit_tuple.specs.Deterministic.{states_of}
use Rattle.word_walk.proofs.distances.found.Given as goal

abbrev pub invariant-loop-at : goal.invariant-loop-at
invariant-loop-at l = record {
  width : length l.distances.items ≡ states_of l.d;
  queue : All (λ q. q < states_of l.d) l.queue.items;
}
