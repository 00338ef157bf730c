use Rattle.std.proofs.Common.{◌<◌, ℕ}
use Rattle.endless.specs.Links.{IsEnd}
use Rattle.endless.proofs.endless.end_state.Given as goal

abbrev pub invariant-loop-state : goal.invariant-loop-state
invariant-loop-state l = (q : ℕ) → q < l.state → ¬ IsEnd l.language q
