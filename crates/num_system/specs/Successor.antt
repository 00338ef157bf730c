-- The number after a number, and the numbers between two.
use Rattle.std.specs.Prelude.{◌≡◌, ℕ, suc, ◌<◌, List, [], ◌∷◌}
use Rattle.digit_tuple.specs.Deterministic.{Automaton}
use Rattle.digit_tuple.specs.declared.direction.Direction.{Direction}
use Rattle.numeration.specs.Systems.{System}
use Rattle.numeration.specs.Relations.{HoldsOf}

-- the second number is one more than the first
abbrev pub IsNext : List ℕ → Type 0
IsNext ns = (x : ℕ) × (ns ≡ x ∷ suc x ∷ [])

abbrev pub IsSuccessorOf : Direction → System → Automaton → Type 0
IsSuccessorOf direction s d = HoldsOf direction (s ∷ s ∷ []) IsNext d

-- the first number is above the second and below the third
abbrev pub IsInside : List ℕ → Type 0
IsInside ns = (u : ℕ) × (x : ℕ) × (y : ℕ) × (ns ≡ u ∷ x ∷ y ∷ []) × (x < u) × (u < y)

-- some number is above the first and below the second
abbrev pub HasInside : List ℕ → Type 0
HasInside ns = (x : ℕ) × (y : ℕ) × (u : ℕ) × (ns ≡ x ∷ y ∷ []) × (x < u) × (u < y)
