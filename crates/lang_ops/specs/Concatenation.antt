-- The words of one language followed by those of another, and the kinds of words that their concatenation distinguishes.
use Rattle.std.specs.Prelude.{◌≡◌, ℕ, List, ◌++◌, IsTrue}
use Rattle.digit_tuple.specs.Deterministic.{Automaton, accepts_of}
use Rattle.minimise.specs.Residuals.{SameAfter}
use Rattle.lang_ops.specs.Rests.{SameRests}

-- the word is one that the first automaton accepts, followed by one that the second accepts
abbrev pub IsConcatenated : Automaton → Automaton → List ℕ → Type 0
IsConcatenated a b w = (u : List ℕ) × (v : List ℕ) × (w ≡ u ++ v) × IsTrue (accepts_of a u) × IsTrue (accepts_of b v)

-- The first language has one residual after both words, and the second the same residuals, but for the empty one, after what is left
-- of them after words of the first.
pub record ConcatAlike (a b : Automaton) (w v : List ℕ) : Type 0 where
  pub first : SameAfter a w v
  pub second : SameRests b (λ u. IsTrue (accepts_of a u)) w v
