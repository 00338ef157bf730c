use Rattle.std.proofs.Common.{◌≡◌, ℕ, ◌^◌, ◌<◌}
use Rattle.base_change.proofs.related.related.Given as goal

abbrev pub invariant-loop-root : goal.invariant-loop-root
invariant-loop-root l = (r b a : ℕ) → r < l.root → l.old ≡ r ^ b → l.new ≡ r ^ a → ⊥
