use Rattle.std.proofs.Common.{ℕ, ◌+◌, ◌-◌, ◌≤◌, length}
use Rattle.digit_tuple.specs.TransitionCounts.{transition_count}
use Rattle.residual_classes.specs.PaidPartition.{AreAtMost, IsPaidFor}
use Rattle.residual_classes.specs.Weights.{class_size}
use Rattle.digit_tuple.specs.Deterministic.{states_of}
use Rattle.residual_classes.specs.Partition.{IsPartition}
use Rattle.residual_classes.specs.Settled.{IsSettled}
use Rattle.residual_classes.proofs.partition.parted.Given as goal

abbrev pub invariant-part : goal.invariant-part
invariant-part g l = record {
  partition : IsPartition l.machine l.partition;
  settled : IsSettled l.machine.dfa.now l.machine.outputs.now l.partition.classes.items l.partition.pending;
  paid : (largest : ℕ) → AreAtMost (states_of l.machine.dfa.now) l.fn.classes.items largest
      → (spent : ℕ) × (l.looks ≤ l.fn.looks + spent) × IsPaidFor l.machine (transition_count l.machine.dfa.now) largest spent l.partition × (class_size (states_of l.machine.dfa.now) l.partition.classes.items 0 ≤ largest);
}

-- each class that comes makes one pending at most, and there are no more classes than states and the sink
abbrev pub decreases-part : goal.decreases-part
decreases-part g l = length l.partition.pending + (states_of l.machine.dfa.now + 1) - length l.partition.spans.items
