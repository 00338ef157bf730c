use Rattle.std.proofs.Common.{ℕ, ◌<◌}
use Rattle.product_op.specs.LetterJoins.{AddUp, least_of}
use Rattle.product_op.specs.Readings.{part_read, reading_in}
use Rattle.product_op.proofs.letter_joins.LetterJoin.checked.Given as goal

abbrev pub invariant-loop-letter : goal.invariant-loop-letter
invariant-loop-letter l = (a : ℕ) → a < l.letter → AddUp (least_of l.self.first.items (part_read (reading_in l.first) a)) (least_of l.self.second.items (part_read (reading_in l.second) a)) a
