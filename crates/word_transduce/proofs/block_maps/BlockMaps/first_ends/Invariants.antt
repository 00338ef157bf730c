use Rattle.std.proofs.Common.{◌≡◌, map}
use Rattle.std.specs.List.{range_with_len}
use Rattle.word_transduce.specs.BlockMaps.{first_end}
use Rattle.word_transduce.proofs.block_maps.BlockMaps.first_ends.Given as goal

abbrev pub invariant-loop-pair : goal.invariant-loop-pair
invariant-loop-pair l = l.ends.items ≡ map (first_end l.self.transducer.now l.self.function.now) (range_with_len 0 l.pair)
