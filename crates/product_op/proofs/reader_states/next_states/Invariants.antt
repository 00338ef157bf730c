use Rattle.std.proofs.Common.{◌≡◌, ℕ, ◌<◌}
use Rattle.residual_classes.specs.Classes.{next_of}
use Rattle.product_op.specs.Readings.{readings_in, reading_at, part_read, state_at}
use Rattle.product_op.proofs.reader_states.next_states.Given as goal

abbrev pub invariant-loop-place : goal.invariant-loop-place
invariant-loop-place l = (i : ℕ) → i < l.place → state_at l.next i ≡ next_of (reading_at (readings_in l.readers) i).automaton (state_at l.key i) (part_read (reading_at (readings_in l.readers) i) l.letter)
