use Rattle.std.proofs.Common.{ℕ, ◌<◌, length}
use Rattle.digit_tuple.specs.Keys.{transition_at}
use Rattle.residual_classes.specs.PaidPartition.{AreFew, IsPaidFor}
use Rattle.residual_classes.specs.Partition.{IsPartition}
use Rattle.residual_classes.specs.Settled.{AreAllPending}
use Rattle.residual_classes.proofs.PartedLemmas.{AreTakenOut}
use Rattle.residual_classes.proofs.partition.Partition.part_by_class.Given as goal

abbrev pub invariant-loop-place : goal.invariant-loop-place
invariant-loop-place l = record {
  partition : IsPartition l.machine l.self;
  pending : AreAllPending (length l.self.spans.items) l.self.pending;
  taken : AreTakenOut l.machine.dfa.now l.self.classes.items l.parts l.place;
  paid : (transitions largest looks : ℕ) → IsPaidFor l.machine transitions largest looks l.fn.self → ((place : ℕ) → place < length l.parts → AreFew l.machine largest l.fn.self.classes.items (transition_at l.parts place).key) → IsPaidFor l.machine transitions largest looks l.self;
}
