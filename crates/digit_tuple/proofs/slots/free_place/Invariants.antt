use Rattle.std.proofs.Common.{ℕ, ◌<◌, ◌≤◌}
use Rattle.digit_tuple.specs.Slots.{slot_at}
use Rattle.digit_tuple.proofs.slots.free_place.Given as goal

abbrev pub invariant-loop-place : goal.invariant-loop-place
invariant-loop-place l = (p : ℕ) → l.start ≤ p → p < l.place → 0 < (slot_at l.slots p).link
