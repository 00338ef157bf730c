use Rattle.std.proofs.Common.{◌≡◌, drop}
use Rattle.product_op.specs.Readings.{readings_in, flags_at, all_true}
use Rattle.product_op.proofs.reader_states.all_accept.Given as goal

abbrev pub invariant-loop-place : goal.invariant-loop-place
invariant-loop-place l = all_true (drop l.from (flags_at (readings_in l.readers) l.key)) ≡ all_true (drop l.place (flags_at (readings_in l.readers) l.key))
