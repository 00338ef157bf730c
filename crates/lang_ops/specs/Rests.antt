-- What is left of a word after a prefix with some property.
use Rattle.std.specs.Prelude.{◌≡◌, ℕ, List, ◌++◌}
use Rattle.digit_tuple.specs.Deterministic.{Automaton}
use Rattle.minimise.specs.Residuals.{IsEmptyAfter, SameAfter}

-- x is what is left of w after a prefix with the property
abbrev pub IsRest : (List ℕ → Type 0) → List ℕ → List ℕ → Type 0
IsRest P w x = (u : List ℕ) × (w ≡ u ++ x) × P u

-- the automaton's residual after each rest of w, but the empty one, is that after a rest of v
abbrev pub HaveRests : Automaton → (List ℕ → Type 0) → List ℕ → List ℕ → Type 0
HaveRests d P w v = (x : List ℕ) → IsRest P w x → ¬ IsEmptyAfter d x → (y : List ℕ) × IsRest P v y × SameAfter d x y

-- the sets of the automaton's residuals after the rests of w and after those of v are the same but for the empty residual
pub record SameRests (d : Automaton) (P : List ℕ → Type 0) (w v : List ℕ) : Type 0 where
  pub forth : HaveRests d P w v
  pub back : HaveRests d P v w
