use Rattle.std.proofs.Common.{◌≢◌, ℕ, ◌<◌, ◌≤◌, decimal}
use Rattle.system_names.proofs.naming.base_named.Given as goal

abbrev pub invariant-loop-base : goal.invariant-loop-base
invariant-loop-base l = (2 ≤ l.base) × ((k : ℕ) → 2 ≤ k → k < l.base → l.digits ≢ decimal k)
