use Rattle.std.proofs.Common.{◌≡◌, length}
use Rattle.word_transduce.specs.BlockLengths.{AreFirstEnds, ends_of_length}
use Rattle.word_transduce.proofs.listed_ends.list_ends.Given as goal

abbrev pub invariant-loop-digits : goal.invariant-loop-digits
invariant-loop-digits l = record {
  count : length l.list ≡ l.digits;
  ends : l.ends.items ≡ ends_of_length l.maps.transducer.now l.maps.function.now l.digits;
  listed : AreFirstEnds l.maps.transducer.now l.maps.function.now l.list;
}
