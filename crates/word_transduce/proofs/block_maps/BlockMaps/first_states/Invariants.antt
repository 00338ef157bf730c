use Rattle.std.proofs.Common.{◌≡◌, ◌+◌, ◌%◌, map}
use Rattle.std.specs.List.{range_with_len}
use Rattle.word_transduce.proofs.block_maps.BlockMaps.first_states.Given as goal

abbrev pub invariant-loop-pair : goal.invariant-loop-pair
invariant-loop-pair l = l.states.items ≡ map (λ pair. pair % l.self.transducer.now.states + 1) (range_with_len 0 l.pair)
