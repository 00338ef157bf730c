-- The systems of tracks, by their names.
use Rattle.std.specs.Prelude.{◌≡◌, ℕ, ◌<◌, List, length, map, take, slice_index_or, Some, ⊤}
use Rattle.std.specs.List.{All, AllByRecursion}
use Rattle.digit_tuple.specs.declared.direction.Direction.{Direction}
use Rattle.numeration.specs.Systems.{System}
use Rattle.num_system.specs.Sealed as sealed
use Rattle.named_systems.specs.declared.track_system.Meaning.{Meaning}
use Rattle.named_systems.specs.declared.track_system.Meaning.TheVariants.{BuiltIn, Admitted}
use Rattle.named_systems.specs.declared.track_system.TrackSystem.{TrackSystem}
use Rattle.named_systems.specs.declared.track_systems.TrackSystems.{TrackSystems}
use Rattle.named_systems.specs.declared.track_systems.TracksFault.{TracksFault}
use Rattle.named_systems.specs.declared.track_systems.TracksFault.TheVariants as faults
use Rattle.named_systems.specs.KnownSystems as known
use Rattle.named_systems.specs.NamedSystems.{NamedSystem, system_named}

-- the system that a name means, and the direction in which its words are read
abbrev pub meant_system : Meaning → System
meant_system (BuiltIn s) = known.system_of s
meant_system (Admitted s) = sealed.system_of s.value

abbrev pub meant_direction : Meaning → Direction
meant_direction (BuiltIn s) = known.direction_of s
meant_direction (Admitted s) = s.value.direction

-- the system of a track, and its direction
abbrev pub system_of : TrackSystem → System
system_of s = meant_system s.meaning

abbrev pub direction_of : TrackSystem → Direction
direction_of s = meant_direction s.meaning

abbrev pub names_in : List TrackSystem → List (List ℕ)
names_in systems = map (λ (s : TrackSystem). s.name) systems

-- the system is read in this direction
abbrev pub IsIn : Direction → TrackSystem → Type 0
IsIn direction s = direction_of s ≡ direction

-- the name is that of a system that is built in, or this one of the users' systems is under it
abbrev pub IsNameOf : List NamedSystem → List ℕ → Meaning → Type 0
IsNameOf users name (BuiltIn s) = name ≡ known.name_of s
IsNameOf users name (Admitted s) = system_named users name ≡ Some s.value

-- each system is what its name means, and the names are these
pub record AreNamesOf (users : List NamedSystem) (names : List (List ℕ)) (systems : List TrackSystem) : Type 0 where
  pub names_are : names ≡ names_in systems
  pub are : AllByRecursion (λ (s : TrackSystem). IsNameOf users s.name s.meaning) systems

-- and all are in one direction
pub record AreTrackSystemsOf (users : List NamedSystem) (names : List (List ℕ)) (t : TrackSystems) : Type 0 where
  pub named : AreNamesOf users names t.systems.items
  pub some : 0 < length t.systems.items
  pub directions : All (IsIn t.direction) t.systems.items

-- the system at this place is the first that is read in another direction
pub record IsFirstApart (direction : Direction) (systems : List TrackSystem) (place : ℕ) : Type 0 where
  pub within : place < length systems
  pub before : All (IsIn direction) (take place systems)
  pub apart : (s : TrackSystem) → ¬ IsIn direction (slice_index_or systems place s)

-- the first name, and the first later one that means a system of the other direction
pub record ArePartedNames (users : List NamedSystem) (names : List (List ℕ)) (first other : List ℕ) : Type 0 where
  pub systems : List TrackSystem
  pub named : AreNamesOf users names systems
  pub direction : Direction
  pub first_of : (s : TrackSystem) → IsIn direction (slice_index_or systems 0 s)
  pub place : ℕ
  pub other_of : IsFirstApart direction systems place
  pub first_is : first ≡ slice_index_or names 0 first
  pub other_is : other ≡ slice_index_or names place other

-- why names give no tracks
abbrev pub RefusesNames : List NamedSystem → List (List ℕ) → TracksFault → Type 0
RefusesNames users names (faults.Direction first other) = ArePartedNames users names first other
RefusesNames users names faults.Memory = ⊤
