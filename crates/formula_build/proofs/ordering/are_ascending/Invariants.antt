use Rattle.formula_build.proofs.OrderedLemmas.{AscendTo}
use Rattle.formula_build.proofs.ordering.are_ascending.Given as goal

abbrev pub invariant-loop-place : goal.invariant-loop-place
invariant-loop-place l = AscendTo l.names l.place
