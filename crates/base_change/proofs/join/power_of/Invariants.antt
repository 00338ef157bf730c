use Rattle.std.proofs.Common.{◌≡◌, ◌^◌}
use Rattle.base_change.proofs.join.power_of.Given as goal

abbrev pub invariant-loop-place : goal.invariant-loop-place
invariant-loop-place l = l.power ≡ l.base ^ l._place
