use Rattle.std.proofs.Common.{◌≡◌}
use Rattle.word_transduce.specs.BlockMaps.{at_pairs, state_before}
use Rattle.word_transduce.proofs.block_maps.BlockMaps.ends_after.Given as goal

abbrev pub invariant-loop-digit : goal.invariant-loop-digit
invariant-loop-digit l = l.states.items ≡ at_pairs l.self.transducer.now l.self.function.now (state_before l.self.transducer.now l.self.function.now l.ends l.digit)
