use Rattle.std.proofs.Common.{ℕ, ◌<◌}
use Rattle.endless.specs.Links.{IgnoresZero}
use Rattle.adder_check.proofs.keeps_zeros.keeps_last_zeros.Given as goal

abbrev pub invariant-loop-state : goal.invariant-loop-state
invariant-loop-state l = (q : ℕ) → q < l.state → IgnoresZero l.language q
