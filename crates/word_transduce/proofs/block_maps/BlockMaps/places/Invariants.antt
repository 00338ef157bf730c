use Rattle.std.proofs.Common.{◌≡◌, ◌/◌, map, slice_index}
use Rattle.std.specs.List.{range_with_len}
use Rattle.residual_classes.specs.Classes.{next_of}
use Rattle.word_transduce.specs.BlockMaps.{pairs_of}
use Rattle.word_transduce.specs.BlockLengths.{place_at}
use Rattle.word_transduce.proofs.block_maps.BlockMaps.places.Given as goal

abbrev pub invariant-loop-pair : goal.invariant-loop-pair
invariant-loop-pair l = l.places.items ≡ map (λ pair. place_at (pairs_of l.self.transducer.now l.self.function.now) l.self.transducer.now.states (next_of l.self.function.now.automaton (pair / l.self.transducer.now.states) l.digit) (slice_index l.states pair)) (range_with_len 0 l.pair)
