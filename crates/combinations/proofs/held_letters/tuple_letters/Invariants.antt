use Rattle.std.proofs.Common.{◌≡◌, take}
use Rattle.product_op.specs.Readings.{readings_in}
use Rattle.combinations.specs.HeldLetters.{held_letters}
use Rattle.combinations.proofs.held_letters.tuple_letters.Given as goal

abbrev pub invariant-loop-number : goal.invariant-loop-number
invariant-loop-number l = l.letters.items ≡ held_letters l.rest l.parts (readings_in l.readers) (take l.number l.keys)
