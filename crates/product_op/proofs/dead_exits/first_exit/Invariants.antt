use Rattle.std.proofs.Common.{ℕ, ◌<◌, get_or}
use Rattle.product_op.specs.DeadExits.{LeadsOut}
use Rattle.product_op.specs.Readings.{reading_in}
use Rattle.product_op.proofs.dead_exits.first_exit.Given as goal

abbrev pub invariant-loop-letter : goal.invariant-loop-letter
invariant-loop-letter l = (i : ℕ) → i < l.letter-index → ¬ LeadsOut (reading_in l.at.reader.now) l.at.state (get_or l.letters i 0)
