use Rattle.std.proofs.Common.{◌≡◌, ℕ, ◌+◌, ◌<◌}
use Rattle.residual_classes.specs.Classes.{class_of}
use Rattle.residual_classes.specs.TransitionLetters.{letter_at, listed}
use Rattle.residual_classes.proofs.stability.lead_alike.Given as goal

abbrev pub invariant-loop-place : goal.invariant-loop-place
invariant-loop-place l = record {
  letters : (k : ℕ) → k < l.place → letter_at (listed l.flat.letters) (class_of l.flat.starts.items l.p) (class_of l.flat.starts.items l.p + k) ≡ letter_at (listed l.flat.letters) (class_of l.flat.starts.items l.q) (class_of l.flat.starts.items l.q + k);
  targets : (k : ℕ) → k < l.place → class_of l.classes (class_of l.flat.targets.items (class_of l.flat.starts.items l.p + k)) ≡ class_of l.classes (class_of l.flat.targets.items (class_of l.flat.starts.items l.q + k));
}
