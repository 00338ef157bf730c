-- Tuples of numbers of which an automaton accepts a representation.
use Rattle.std.specs.Prelude.{◌≡◌, ℕ, List, IsTrue}
use Rattle.digit_tuple.specs.Letters.{IsWord}
use Rattle.digit_tuple.specs.Paddings.{in_order, without_zeros}
use Rattle.digit_tuple.specs.Deterministic.{Automaton, letters_of, accepts_of}
use Rattle.digit_tuple.specs.declared.direction.Direction.{Direction}
use Rattle.numeration.specs.Systems.{System}
use Rattle.numeration.specs.Representation.{Represents, letters_in}

-- some representation of the numbers is accepted
abbrev pub HasRepresentation : Direction → List System → Automaton → List ℕ → Type 0
HasRepresentation direction ss a ns = (v : List ℕ) × IsWord (letters_in ss) v × Represents ss (in_order direction v) ns × IsTrue (accepts_of a v)

-- words that differ in leading zeros alone are both accepted or both refused
abbrev pub IgnoresZeros : Direction → Automaton → Type 0
IgnoresZeros direction a = (v w : List ℕ) → IsWord (letters_of a) v → IsWord (letters_of a) w → without_zeros (in_order direction v) ≡ without_zeros (in_order direction w)
    → accepts_of a v ≡ accepts_of a w
