use Rattle.std.proofs.Common.{◌≡◌, ℕ, ◌<◌}
use Rattle.residual_classes.specs.Classes.{class_of}
use Rattle.residual_classes.specs.Alike.{AreAlike}
use Rattle.residual_classes.proofs.stability.are_like_leaders.Given as goal

abbrev pub invariant-loop-place : goal.invariant-loop-place
invariant-loop-place l = record {
  alike : (q : ℕ) → q < l.place → AreAlike l.machine.dfa.now l.classes q (class_of l.leaders (class_of l.classes q));
  outputs : (q : ℕ) → q < l.place → class_of l.machine.outputs.now q ≡ class_of l.machine.outputs.now (class_of l.leaders (class_of l.classes q));
}
