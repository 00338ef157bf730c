use Rattle.std.proofs.Common.{◌≡◌, ℕ, ◌+◌, ◌<◌, cond, nat_eq, length, take, slice_index_or}
use Rattle.std.specs.List.{sum_by}
use Rattle.constants.specs.WordCounts.{capped}
use Rattle.constants.proofs.word_counts.add_along.Given as goal

abbrev pub invariant-loop-transition : goal.invariant-loop-transition
invariant-loop-transition l = (state before : ℕ) → state < length l.fn.next → slice_index_or l.fn.next state 0 ≡ capped before
    → slice_index_or l.next state 0 ≡ capped (before + sum_by (λ e. cond (nat_eq e.target state) l.count 0) (take l.transition-index l.transitions))
