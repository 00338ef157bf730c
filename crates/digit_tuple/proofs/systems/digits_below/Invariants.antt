use Rattle.std.proofs.Common.{◌≡◌}
use Rattle.digit_tuple.specs.Systems.{digit_set}
use Rattle.digit_tuple.proofs.systems.digits_below.Given as goal

abbrev pub invariant-loop-digit : goal.invariant-loop-digit
invariant-loop-digit l = l.digits.items ≡ digit_set l.digit
