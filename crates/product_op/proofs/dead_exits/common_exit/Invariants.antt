use Rattle.std.proofs.Common.{ℕ, ◌<◌}
use Rattle.product_op.specs.DeadExits.{LeadsOut}
use Rattle.product_op.specs.Readings.{reading_in}
use Rattle.product_op.proofs.dead_exits.common_exit.Given as goal

abbrev pub invariant-loop-letter : goal.invariant-loop-letter
invariant-loop-letter l = (a : ℕ) → a < l.letter → ¬ (LeadsOut (reading_in l.first.reader.now) l.first.state a × LeadsOut (reading_in l.second.reader.now) l.second.state a)
