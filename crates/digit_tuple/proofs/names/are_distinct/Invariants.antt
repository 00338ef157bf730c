use Rattle.digit_tuple.proofs.NameLemmas.{AreDistinctTo}
use Rattle.digit_tuple.proofs.names.are_distinct.Given as goal

abbrev pub invariant-loop-place : goal.invariant-loop-place
invariant-loop-place l = AreDistinctTo l.names l.place
