-- The automaton of one number, and the kinds of words that it distinguishes.
use Rattle.std.specs.Prelude.{◌≡◌, ℕ, List, [], ◌∷◌, ◌++◌, ◌↔◌}
use Rattle.digit_tuple.specs.Letters.{IsWord}
use Rattle.digit_tuple.specs.Paddings.{in_order}
use Rattle.digit_tuple.specs.Deterministic.{Automaton}
use Rattle.digit_tuple.specs.declared.direction.Direction.{Direction}
use Rattle.numeration.specs.Systems.{System, IsRepresentation}
use Rattle.numeration.specs.Relations.{HoldsOf}

-- the automaton accepts the representations of the number alone
abbrev pub IsConstantOf : Direction → System → ℕ → Automaton → Type 0
IsConstantOf direction s n d = HoldsOf direction (s ∷ []) (λ ns. ns ≡ n ∷ []) d

-- after both words, the same words make a representation of the number
abbrev pub ConstantAlike : Direction → System → ℕ → List ℕ → List ℕ → Type 0
ConstantAlike direction s n w v = (u : List ℕ) → IsWord s.digits u → IsRepresentation s (in_order direction (w ++ u)) n ↔ IsRepresentation s (in_order direction (v ++ u)) n
