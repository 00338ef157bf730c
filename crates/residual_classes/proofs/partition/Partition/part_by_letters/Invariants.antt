use Rattle.std.proofs.Common.{ℕ, ◌<◌, ◌≤◌}
use Rattle.digit_tuple.specs.Deterministic.{states_of}
use Rattle.residual_classes.specs.PaidPartition.{IsPaidFor}
use Rattle.residual_classes.specs.Weights.{class_size}
use Rattle.digit_tuple.specs.Keys.{transition_at}
use Rattle.residual_classes.specs.Partition.{HasGrown, IsPartition}
use Rattle.residual_classes.specs.Settled.{AreApart}
use Rattle.residual_classes.proofs.partition.Partition.part_by_letters.Given as goal

abbrev pub invariant-loop-place : goal.invariant-loop-place
invariant-loop-place g l = record {
  partition : IsPartition l.machine l.self;
  grown : HasGrown l.fn.self l.self;
  apart : (place : ℕ) → place < l.place → AreApart l.self.classes.items (transition_at l.sources place).key;
  paid : (transitions largest looks : ℕ) → IsPaidFor l.machine transitions largest looks l.fn.self → class_size (states_of l.machine.dfa.now) l.fn.self.classes.items 0 ≤ largest → IsPaidFor l.machine transitions largest looks l.self;
}
