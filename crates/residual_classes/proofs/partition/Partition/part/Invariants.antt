use Rattle.std.proofs.Common.{ℕ, ◌≤◌}
use Rattle.digit_tuple.specs.Deterministic.{states_of}
use Rattle.residual_classes.specs.PaidPartition.{IsPaidFor}
use Rattle.residual_classes.specs.Weights.{class_size}
use Rattle.residual_classes.specs.Partition.{HasGrown, IsPartition}
use Rattle.residual_classes.proofs.PartedLemmas.{ArePartedTo}
use Rattle.residual_classes.proofs.partition.Partition.part.Given as goal

abbrev pub invariant-loop-place : goal.invariant-loop-place
invariant-loop-place l = record {
  partition : IsPartition l.machine l.self;
  grown : HasGrown l.fn.self l.self;
  parted : ArePartedTo l.fn.self.classes.items l.self.classes.items l.set l.parts l.place;
  paid : (transitions largest looks : ℕ) → IsPaidFor l.machine transitions largest looks l.fn.self → class_size (states_of l.machine.dfa.now) l.fn.self.classes.items 0 ≤ largest → IsPaidFor l.machine transitions largest looks l.self;
}
