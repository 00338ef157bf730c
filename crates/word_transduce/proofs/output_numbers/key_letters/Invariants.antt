use Rattle.std.proofs.Common.{◌≡◌, map, take}
use Rattle.word_transduce.specs.BlockMaps.{key_letter}
use Rattle.word_transduce.proofs.output_numbers.key_letters.Given as goal

abbrev pub invariant-loop-number : goal.invariant-loop-number
invariant-loop-number l = l.letters.items ≡ map (key_letter l.transducer) (take l.number l.keys)
