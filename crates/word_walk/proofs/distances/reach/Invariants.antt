use Rattle.std.proofs.Common.{◌≡◌, ◌<◌, length}
use Rattle.std.specs.List.{All}
use Rattle.word_walk.proofs.distances.reach.Given as goal

abbrev pub invariant-loop-transition : goal.invariant-loop-transition
invariant-loop-transition l = record {
  width : length l.distances.items ≡ length l.fn.distances.items;
  queue : All (λ q. q < length l.fn.distances.items) l.queue.items;
}
