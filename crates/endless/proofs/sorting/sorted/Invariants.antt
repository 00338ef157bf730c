use Rattle.endless.proofs.PathLemmas.{IsUnderWay}
use Rattle.endless.proofs.sorting.sorted.Given as goal

abbrev pub invariant-loop-place : goal.invariant-loop-place
invariant-loop-place l = IsUnderWay l.language l.without l.pending.items l.order.items l.place
