-- The accepting states of a deterministic automaton.
use Rattle.std.specs.Prelude.{◌≡◌, ℕ, ◌<◌, true, List, ◌↔◌}
use Rattle.std.specs.List.{AllPairs, Contains}
use Rattle.digit_tuple.specs.Deterministic.{Automaton, states_of, accepting_of}

-- the set has the accepting states, in order
pub record AreAccepting (d : Automaton) (set : List ℕ) : Type 0 where
  pub ascending : AllPairs (λ p q. p < q) set
  pub members : (q : ℕ) → Contains set q ↔ ((q < states_of d) × (accepting_of d q ≡ true))
