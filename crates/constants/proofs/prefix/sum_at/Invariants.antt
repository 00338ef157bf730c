use Rattle.std.proofs.Common.{◌≡◌, false, cond, slice_index_or}
use Rattle.numeration.proofs.CountLemmas.{sum_below}
use Rattle.constants.specs.WordCounts.{capped}
use Rattle.constants.proofs.prefix.sum_at.Given as goal

abbrev pub invariant-loop-state : goal.invariant-loop-state
invariant-loop-state l = l.sum ≡ capped (sum_below (λ q. cond (slice_index_or l.marks q false) (slice_index_or l.row q 0) 0) l.state)
