use Rattle.std.proofs.Common.{◌≡◌, take}
use Rattle.product_op.specs.Readings.{readings_in, first_key}
use Rattle.product_op.proofs.reader_states.initial_states.Given as goal

abbrev pub invariant-loop-reader : goal.invariant-loop-reader
invariant-loop-reader l = l.key.items ≡ first_key (readings_in (take l.reader-index l.readers))
