use Rattle.std.proofs.Common.{◌≡◌, ◌++◌, map}
use Rattle.std.specs.List.{range_with_len}
use Rattle.word_transduce.specs.PackedOutputs.{group_of}
use Rattle.word_transduce.proofs.packed_outputs.push_packed.Given as goal

abbrev pub invariant-loop-group : goal.invariant-loop-group
invariant-loop-group l = l.key.items ≡ l.initial.key.items ++ map (group_of l.outputs) (range_with_len 0 l.group)
