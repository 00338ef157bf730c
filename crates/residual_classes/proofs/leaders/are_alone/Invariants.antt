use Rattle.std.proofs.Common.{◌≡◌, ℕ, ◌<◌}
use Rattle.residual_classes.specs.Classes.{class_of}
use Rattle.residual_classes.proofs.leaders.are_alone.Given as goal

abbrev pub invariant-loop-place : goal.invariant-loop-place
invariant-loop-place l = (q : ℕ) → q < l.place → class_of l.leaders.items (class_of l.classes q) ≡ q
