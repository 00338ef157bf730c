use Rattle.std.proofs.Common.{◌≡◌, ℕ, ◌<◌}
use Rattle.digit_tuple.specs.Deterministic.{state_of}
use Rattle.minimise.proofs.comparison.have_equal_states.Given as goal

abbrev pub invariant-loop-state : goal.invariant-loop-state
invariant-loop-state l = (q : ℕ) → q < l.state → state_of l.a q ≡ state_of l.b q
