use Rattle.std.proofs.Common.{◌≡◌, take}
use Rattle.product_op.specs.Readings.{readings_in}
use Rattle.combinations.specs.HeldLetters.{part_readings}
use Rattle.combinations.proofs.held_letters.combined_readers.Given as goal

abbrev pub invariant-loop-part : goal.invariant-loop-part
invariant-loop-part l = readings_in l.readers.items ≡ part_readings (take l.part-index l.parts)
