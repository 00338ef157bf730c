use Rattle.std.proofs.Common.{◌≡◌, ℕ, ◌<◌, length, slice_index}
use Rattle.word_transduce.proofs.packed_outputs.gather_numbers.Given as goal

abbrev pub invariant-loop-at : goal.invariant-loop-at
invariant-loop-at l = record {
  count : length l.found ≡ length l.initial.found;
  passed : (at : ℕ) → at < l.at → slice_index l.found at ≡ slice_index l.outputs (slice_index l.places at);
}
