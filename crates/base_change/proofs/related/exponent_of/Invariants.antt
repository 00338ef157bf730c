use Rattle.std.proofs.Common.{◌≡◌, ℕ, ◌^◌, ◌<◌, ◌-◌}
use Rattle.base_change.proofs.related.exponent_of.Given as goal

abbrev pub invariant-loop-power : goal.invariant-loop-power
invariant-loop-power l = record {
  is : l.power ≡ l.root ^ l.exponent;
  small : l.exponent < l.power;
  below : (e : ℕ) → e < l.exponent → l.root ^ e < l.number;
}

abbrev pub decreases-loop-power : goal.decreases-loop-power
decreases-loop-power l = l.number - l.power
