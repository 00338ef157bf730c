use Rattle.std.proofs.Common.{◌≡◌, ◌≤◌, length, take}
use Rattle.word_walk.specs.Sources.{targets_from}
use Rattle.word_walk.proofs.sources.targets_from.Given as goal

abbrev pub invariant-loop-state : goal.invariant-loop-state
invariant-loop-state l = record {
  few : length l.targets.items ≤ l.most;
  targets : l.targets.items ≡ targets_from l.n (take l.state-index l.states);
}
