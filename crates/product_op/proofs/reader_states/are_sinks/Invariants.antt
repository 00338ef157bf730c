use Rattle.std.proofs.Common.{◌≡◌, ℕ, ◌<◌}
use Rattle.digit_tuple.specs.Deterministic.{states_of}
use Rattle.product_op.specs.Readings.{readings_in, reading_at, state_at}
use Rattle.product_op.proofs.reader_states.are_sinks.Given as goal

abbrev pub invariant-loop-place : goal.invariant-loop-place
invariant-loop-place l = (i : ℕ) → i < l.place → state_at l.key i ≡ states_of (reading_at (readings_in l.readers) i).automaton
