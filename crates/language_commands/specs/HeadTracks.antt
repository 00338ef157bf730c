-- The tracks that the systems or the sets of a head mean.
use Rattle.std.specs.Prelude.{◌≡◌, ℕ, ◌<◌, List, ◌∷◌, length}
use Rattle.digit_tuple.specs.declared.direction.Direction.{Direction}
use Rattle.command_head.specs.Heads as heads
use Rattle.definitions.specs.Tracks.{Tracks, OverSets, OverSystems, NamedSystem, names_of}
use Rattle.system_files.specs.SystemFiles.{Custom}
use Rattle.definitions.specs.Named.{IsOf, AreKnown, IsFirstWithout, AreNamed}

-- all names are known, the first one is of one direction, and the first later one that is of the other is this
pub record PartInDirection (custom : Custom) (names : List (List ℕ)) (first other : List ℕ) : Type 0 where
  pub known : AreKnown custom names
  pub direction : Direction
  pub rest : List (List ℕ)
  pub names_are : names ≡ first ∷ rest
  pub first_of : IsOf custom direction first
  pub other_is : IsFirstWithout (IsOf custom direction) rest other

-- the systems of these names, of which there is one at least
pub record AreSystemsOf (custom : Custom) (names : List (List ℕ)) (direction : Direction) (named : List NamedSystem) : Type 0 where
  pub names_are : names ≡ names_of named
  pub are : AreNamed custom direction named
  pub some : 0 < length names

-- the tracks that a head means
abbrev pub AreTracksOf : Custom → heads.Alphabets → Tracks → Type 0
AreTracksOf custom (heads.Sets sets) (OverSets others) = others ≡ sets
AreTracksOf custom (heads.Sets sets) (OverSystems direction named) = ⊥
AreTracksOf custom (heads.Systems names) (OverSets others) = ⊥
AreTracksOf custom (heads.Systems names) (OverSystems direction named) = AreSystemsOf custom names direction named
