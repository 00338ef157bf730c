use Rattle.std.proofs.Common.{◌≡◌, ℕ, ◌<◌, ◌↔◌, true}
use Rattle.std.specs.List.{AllPairs, Contains}
use Rattle.digit_tuple.specs.Deterministic.{accepting_of}
use Rattle.digit_tuple.proofs.accepting_states.accepting_states.Given as goal

abbrev pub invariant-loop-state : goal.invariant-loop-state
invariant-loop-state l = record {
  ascending : AllPairs (λ p q. p < q) l.set.items;
  members : (q : ℕ) → Contains l.set.items q ↔ ((q < l.state) × (accepting_of l.d q ≡ true));
}
