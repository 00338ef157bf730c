use Rattle.digit_tuple.proofs.PartIndexLemmas.{AreBlocksTo}
use Rattle.digit_tuple.proofs.part_index.PartIndex.new.Given as goal

abbrev pub invariant-loop-first : goal.invariant-loop-first
invariant-loop-first l = AreBlocksTo l.parts.items l.letters.items l.starts.items l.first-index
