use Rattle.std.proofs.Common.{◌≡◌, ℕ, ◌*◌, ◌<◌, true, length, slice_index}
use Rattle.word_transduce.specs.PackedOutputs.{key_output}
use Rattle.word_transduce.proofs.packed_outputs.unpack_groups.Given as goal

abbrev pub invariant-loop-at : goal.invariant-loop-at
invariant-loop-at l = record {
  count : length l.outputs ≡ length l.initial.outputs;
  passed : (place : ℕ) → place < 4 * l.at → slice_index l.outputs place ≡ key_output true l.key place;
}
