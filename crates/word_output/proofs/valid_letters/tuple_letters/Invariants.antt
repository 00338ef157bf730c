use Rattle.std.proofs.Common.{◌≡◌, take}
use Rattle.product_op.specs.Readings.{readings_in}
use Rattle.word_output.specs.ValidLetters.{tuple_letters}
use Rattle.word_output.proofs.valid_letters.tuple_letters.Given as goal

abbrev pub invariant-loop-number : goal.invariant-loop-number
invariant-loop-number l = l.letters.items ≡ tuple_letters l.function (readings_in l.readers) (take l.number l.keys)
