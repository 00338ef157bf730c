-- The systems of some of the tracks, and the relations that hold of their numbers.
use Rattle.std.specs.Prelude.{◌≡◌, ℕ, false, List, map, length, slice_index_or}
use Rattle.digit_tuple.specs.Parts.{picked}
use Rattle.numeration.specs.Systems.{System}

-- the system that is taken where there is none
abbrev pub no_system : System
no_system = record { digits = 0; test = λ w. false }

abbrev pub system_at : List System → ℕ → System
system_at ss place = slice_index_or ss place no_system

-- the systems of the tracks at these places
abbrev pub systems_at : List ℕ → List System → List System
systems_at places ss = map (system_at ss) places

-- the numbers at the places are part of a tuple, a number for each system, of which the relation holds
abbrev pub completed : List System → List ℕ → (List ℕ → Type 0) → List ℕ → Type 0
completed ss places holds ms = (ns : List ℕ) × (length ns ≡ length ss) × (picked places ns ≡ ms) × holds ns
