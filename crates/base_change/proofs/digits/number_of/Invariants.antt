use Rattle.std.proofs.Common.{◌≡◌, ◌≤◌, drop, length}
use Rattle.base_change.specs.Digits.{value_lsd}
use Rattle.base_change.proofs.digits.number_of.Given as goal

abbrev pub invariant-loop-place : goal.invariant-loop-place
invariant-loop-place l = record {
  inside : l.place ≤ length l.digits;
  number : l.number ≡ value_lsd l.root (drop l.place l.digits);
}

abbrev pub decreases-loop-place : goal.decreases-loop-place
decreases-loop-place l = l.place
