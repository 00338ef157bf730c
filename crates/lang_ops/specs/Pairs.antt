-- The kinds of words that a connective of two languages distinguishes.
use Rattle.std.specs.Prelude.{ℕ, List}
use Rattle.digit_tuple.specs.Deterministic.{Automaton}
use Rattle.minimise.specs.Residuals.{SameAfter}

-- both languages have one residual after both words
pub record PairAlike (a b : Automaton) (w v : List ℕ) : Type 0 where
  pub first : SameAfter a w v
  pub second : SameAfter b w v
