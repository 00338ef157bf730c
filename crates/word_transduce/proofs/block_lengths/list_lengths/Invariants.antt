use Rattle.std.proofs.Common.{◌≡◌, ℕ, ◌<◌, length, get_or}
use Rattle.digit_tuple.specs.Explored.{key_at}
use Rattle.word_transduce.specs.BlockLengths.{IsBlockLength}
use Rattle.word_transduce.specs.declared.block_lengths.BlockLength.{BlockLength}
use Rattle.word_transduce.proofs.block_lengths.list_lengths.Given as goal

abbrev pub invariant-loop-number : goal.invariant-loop-number
invariant-loop-number l = record {
  count : length l.lengths.items ≡ l.number;
  lengths_are : (number : ℕ) (d : BlockLength) → number < l.number → IsBlockLength l.maps.transducer.now l.maps.function.now l.list (key_at l.list number) (get_or l.lengths.items number d);
}
