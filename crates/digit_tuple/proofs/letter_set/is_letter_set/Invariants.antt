use Rattle.std.proofs.Common.{◌<ℤ◌}
use Rattle.std.specs.List.{AllAdjacentBelow}
use Rattle.digit_tuple.proofs.letter_set.is_letter_set.Given as goal

abbrev pub invariant-loop-place : goal.invariant-loop-place
invariant-loop-place l = AllAdjacentBelow (λ x y. x <ℤ y) l.numbers l.place
