use Rattle.std.proofs.Common.{◌≡◌, ◌==◌, ℕ, ◌+◌, ◌≤◌, length, take}
use Rattle.std.specs.List.{count_by}
use Rattle.residual_classes.specs.Classes.{class_of}
use Rattle.residual_classes.proofs.rounds.largest_class.Given as goal

abbrev pub invariant-loop-class : goal.invariant-loop-class
invariant-loop-class l = record {
  width : length l.counts.items ≡ length l.classes + 1;
  counts : (k : ℕ) → class_of l.counts.items k ≡ count_by (λ c. c == k) (take l.class-index l.classes);
  largest : (k : ℕ) → class_of l.counts.items k ≤ l.largest;
}
