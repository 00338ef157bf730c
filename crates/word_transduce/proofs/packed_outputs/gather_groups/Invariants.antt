use Rattle.std.proofs.Common.{◌≡◌, ℕ, ◌<◌, length, map, slice_index}
use Rattle.word_transduce.specs.PackedOutputs.{group_of}
use Rattle.word_transduce.proofs.packed_outputs.gather_groups.Given as goal

abbrev pub invariant-loop-group : goal.invariant-loop-group
invariant-loop-group l = record {
  count : length l.found ≡ length l.initial.found;
  passed : (at : ℕ) → at < l.group → slice_index l.found at ≡ group_of (map (λ place. slice_index l.outputs place) l.places) at;
}
