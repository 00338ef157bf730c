use Rattle.std.proofs.Common.{◌≡◌, ◌++◌, map}
use Rattle.std.specs.List.{range_with_len}
use Rattle.word_transduce.specs.BlockMaps.{first_output}
use Rattle.word_transduce.proofs.block_maps.BlockMaps.push_first_outputs.Given as goal

abbrev pub invariant-loop-pair : goal.invariant-loop-pair
invariant-loop-pair l = l.key.items ≡ l.initial.key.items ++ map (first_output l.self.transducer.now l.self.function.now) (range_with_len 0 l.pair)
