use Rattle.std.proofs.Common.{◌≡◌, ℕ, ◌/◌, ◌<◌, ◌≤◌, length, slice_index}
use Rattle.residual_classes.specs.Classes.{next_of}
use Rattle.word_transduce.specs.BlockMaps.{map_at}
use Rattle.word_transduce.proofs.block_maps.BlockMaps.advance.Given as goal

abbrev pub invariant-loop-pair : goal.invariant-loop-pair
invariant-loop-pair l = record {
  count : length l.states ≡ length l.initial.states;
  passed : (pair : ℕ) → pair < l.pair → slice_index l.states pair ≡ map_at l.ends l.self.transducer.now.states (next_of l.self.function.now.automaton (pair / l.self.transducer.now.states) l.digit) (slice_index l.initial.states pair);
  rest : (pair : ℕ) → l.pair ≤ pair → slice_index l.states pair ≡ slice_index l.initial.states pair;
}
