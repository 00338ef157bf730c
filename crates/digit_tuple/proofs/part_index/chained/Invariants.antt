use Rattle.digit_tuple.specs.PartChains.{AreChains}
use Rattle.digit_tuple.proofs.part_index.chained.Given as goal

abbrev pub invariant-loop-letter : goal.invariant-loop-letter
invariant-loop-letter l = AreChains l.parts l.count l.first.items l.next.items l.letter
