use Rattle.std.proofs.Common.{◌≡◌}
use Rattle.product_op.specs.Readings.{readings_in}
use Rattle.product_op.proofs.FoundLetters.{letters_to}
use Rattle.product_op.proofs.reader_graph.SideBySide.leading_letters.Given as goal

abbrev pub invariant-loop-place : goal.invariant-loop-place
invariant-loop-place l = l.letters.items ≡ letters_to (readings_in l.self.readers.now) l.key l.place
