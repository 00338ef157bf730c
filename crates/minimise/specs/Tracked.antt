-- Canonical automata whose tracks have names.
use Rattle.std.specs.Prelude.{◌≡◌, ℕ, List, length, slice_index_or}
use Rattle.digit_tuple.specs.Names.{AreDistinct, place_of}
use Rattle.digit_tuple.specs.Deterministic.{Automaton}
use Rattle.minimise.specs.Canonical.{IsCanonical}

-- an automaton, and the names of its tracks in their order
pub record NamedAutomaton : Type 0 where
  pub names : List (List ℕ)
  pub automaton : Automaton

-- the size of the track of this name, 0 where there is none
abbrev pub size_of : NamedAutomaton → List ℕ → ℕ
size_of tracked name = slice_index_or tracked.automaton.sizes (place_of tracked.names name) 0

-- the automaton is canonical, and each track has a name of its own
pub record IsTracked (tracked : NamedAutomaton) : Type 0 where
  pub count : length tracked.names ≡ length tracked.automaton.sizes
  pub distinct : AreDistinct tracked.names
  pub canonical : IsCanonical tracked.automaton
