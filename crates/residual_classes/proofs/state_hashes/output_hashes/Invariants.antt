use Rattle.std.proofs.Common.{◌≡◌, ℕ, ◌<◌, length}
use Rattle.residual_classes.specs.Classes.{class_of}
use Rattle.residual_classes.specs.Hashes.{output_hash}
use Rattle.residual_classes.proofs.state_hashes.output_hashes.Given as goal

abbrev pub invariant-loop-state : goal.invariant-loop-state
invariant-loop-state l = record {
  width : length l.hashes.items ≡ l.state;
  are : (q : ℕ) → q < l.state → class_of l.hashes.items q ≡ output_hash (class_of l.machine.outputs.now q);
}
