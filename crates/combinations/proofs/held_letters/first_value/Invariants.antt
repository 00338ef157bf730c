use Rattle.std.proofs.Common.{◌≡◌, ℕ, ◌<◌, false}
use Rattle.product_op.specs.Readings.{flag_at, flags_at, readings_in}
use Rattle.combinations.proofs.held_letters.first_value.Given as goal

abbrev pub invariant-loop-place : goal.invariant-loop-place
invariant-loop-place l = (k : ℕ) → k < l.place → flag_at (flags_at (readings_in l.readers) l.key) k ≡ false
