use Rattle.std.proofs.Common.{◌≡◌, take, slice_index_or}
use Rattle.std.specs.List.{sum_by}
use Rattle.constants.specs.WordCounts.{capped}
use Rattle.constants.proofs.word_counts.sum_along.Given as goal

abbrev pub invariant-loop-transition : goal.invariant-loop-transition
invariant-loop-transition l = l.sum ≡ capped (sum_by (λ e. slice_index_or l.row e.target 0) (take l.transition-index l.transitions))
