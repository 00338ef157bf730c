-- Transitions by each letter of some, as a function says.
use Rattle.std.specs.Prelude.{◌≡◌, ℕ, ◌<◌, List, Option}
use Rattle.std.specs.List.{All, AllPairs}
use Rattle.digit_tuple.specs.declared.transitions.Transition.{Transition}
use Rattle.digit_tuple.specs.Deterministic.{IsByEarlier, target_by}

-- the transitions of a state: by each letter below a number to where the function says, each target below a number
pub record AreTransitionsBy (target : ℕ → Option ℕ) (letters states : ℕ) (transitions : List Transition) : Type 0 where
  pub in_range : All (λ transition. (transition.letter < letters) × (transition.target < states)) transitions
  pub ascending : AllPairs IsByEarlier transitions
  pub leads : (a : ℕ) → a < letters → target_by transitions a ≡ target a
