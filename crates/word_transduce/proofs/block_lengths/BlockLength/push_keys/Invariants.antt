use Rattle.std.proofs.Common.{◌≡◌, length, Some}
use Rattle.digit_tuple.specs.Keys.{AreKeyTransitions}
use Rattle.word_transduce.specs.BlockLengths.{gathered}
use Rattle.word_transduce.specs.PackedOutputs.{packed_len}
use Rattle.word_transduce.proofs.block_lengths.BlockLength.push_keys.Given as goal

abbrev pub invariant-loop-digit : goal.invariant-loop-digit
invariant-loop-digit l = record {
  count : length l.found.items ≡ packed_len l.self.is_packed (length l.outputs);
  transitions : AreKeyTransitions l.digit (λ digit. Some (gathered l.outputs l.self digit)) l.out;
}
