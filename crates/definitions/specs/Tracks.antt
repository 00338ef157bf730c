-- What the tracks of an automaton are over.
use Rattle.std.specs.Prelude.{ℕ, ℤ, List, map}
use Rattle.digit_tuple.specs.Systems.{digit_sets}
use Rattle.digit_tuple.specs.declared.direction.Direction.{Direction}
use Rattle.digit_tuple.specs.declared.header.Header.{Header}
use Rattle.digit_tuple.specs.declared.header.Header.TheVariants as headers
use Rattle.digit_tuple.specs.declared.systems.SystemTrack.{SystemTrack}
use Rattle.numeration.specs.Systems.{System}

-- a numeration system, and the name by which it was found
pub record NamedSystem : Type 0 where
  pub name : List ℕ
  pub system : System

-- letters of a set each; or digits of numbers in systems, all read in one direction
pub data Tracks : Type 0 where
  OverSets : List (List ℤ) → Tracks
  OverSystems : Direction → List NamedSystem → Tracks

-- the names, and the systems
abbrev pub names_of : List NamedSystem → List (List ℕ)
names_of named = map (λ (s : NamedSystem). s.name) named

abbrev pub systems_of : List NamedSystem → List System
systems_of named = map (λ (s : NamedSystem). s.system) named

-- the track of a system in a header
abbrev pub track_of : NamedSystem → SystemTrack
track_of s = record { name = s.name; digits = s.system.digits }

abbrev pub header_tracks : List NamedSystem → List SystemTrack
header_tracks named = map track_of named

-- the set of letters, or of digits, on each track
abbrev pub letter_sets : Tracks → List (List ℤ)
letter_sets (OverSets sets) = sets
letter_sets (OverSystems direction named) = digit_sets (header_tracks named)

-- the header that says so
abbrev pub header_of : Tracks → Header
header_of (OverSets sets) = headers.Sets sets
header_of (OverSystems direction named) = headers.Systems (header_tracks named)
