use Rattle.std.proofs.Common.{◌≡◌, drop, length}
use Rattle.determinise.specs.Bits.{bits_of, with_bits}
use Rattle.determinise.proofs.bit_words.bits_of.Given as goal

abbrev pub invariant-loop-number : goal.invariant-loop-number
invariant-loop-number l = record {
  length : length l.words.items ≡ l.width;
  rest : with_bits l.words.items (drop l.number-index l.numbers) ≡ bits_of l.width l.numbers;
}
