-- The laws that make a language that of a numeration system.
use Rattle.std.specs.Prelude.{◌≡◌, ℕ, ◌<◌, Bool, List, [], ◌∷◌, length, slice_index_or, IsTrue, ◌↔◌}
use Rattle.digit_tuple.specs.Deterministic.{Automaton, IsTable, letters_of, accepts_of}
use Rattle.digit_tuple.specs.Paddings.{in_order}
use Rattle.digit_tuple.specs.declared.direction.Direction.{Direction}
use Rattle.numeration.specs.Words.{is_plain}
use Rattle.numeration.specs.Systems.{System, IsSystem}

-- the accepted words, read from the most significant digit on
abbrev pub language_in : Direction → Automaton → List ℕ → Bool
language_in direction d w = accepts_of d (in_order direction w)

-- the empty word is in the language, and a leading zero changes nothing
pub record KeepsZeros (test : List ℕ → Bool) : Type 0 where
  pub empty : IsTrue (test [])
  pub zeros : (w : List ℕ) → IsTrue (test (0 ∷ w)) ↔ IsTrue (test w)

-- there are longer words in the language than any, without leading zero
abbrev pub IsEndless : (List ℕ → Bool) → Type 0
IsEndless test = (n : ℕ) → (w : List ℕ) × (n < length w) × IsTrue (test w) × IsTrue (is_plain w)

-- the system of an automaton over so many digits
abbrev pub system_in : Direction → ℕ → Automaton → System
system_in direction digits d = record { digits = digits; test = language_in direction d }

-- the system whose words an automaton of one track accepts
abbrev pub system_of : Direction → Automaton → System
system_of direction d = system_in direction (slice_index_or d.sizes 0 0) d

-- both laws hold if and only if the language of the automaton is that of a numeration system
abbrev pub LawsDetermineSystems : Type 0
LawsDetermineSystems = (direction : Direction) (digits : ℕ) (d : Automaton) → d.sizes ≡ digits ∷ [] → IsTable (letters_of d) d.states
    → (KeepsZeros (language_in direction d) × IsEndless (language_in direction d)) ↔ IsSystem (system_in direction digits d)
