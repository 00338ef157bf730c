use Rattle.std.proofs.Common.{◌≡◌, ℕ, map}
use Rattle.std.specs.Prelude.{Vec}
use Rattle.std.specs.List.{range_with_len}
use Rattle.std.specs.declared.alloc.Global.{Global}
use Rattle.word_transduce.specs.BlockMaps.{at_pairs, state_before}
use Rattle.word_transduce.specs.BlockLengths.{place_in}
use Rattle.word_transduce.proofs.block_lengths.BlockLength.new.Given as goal

abbrev pub invariant-loop-digit : goal.invariant-loop-digit
invariant-loop-digit l = record {
  states : l.states.items ≡ at_pairs l.maps.transducer.now l.maps.function.now (state_before l.maps.transducer.now l.maps.function.now l.ends l.digit);
  rows : map (λ (row : Vec ℕ Global). row.items) l.places.items ≡ map (λ digit. at_pairs l.maps.transducer.now l.maps.function.now (place_in l.maps.transducer.now l.maps.function.now l.ends digit)) (range_with_len 0 l.digit);
}
