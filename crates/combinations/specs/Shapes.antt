-- The tracks of the relations in a list, compared place by place; their names do not count.
use Rattle.std.specs.Prelude.{◌≡◌, ◌⊎◌, ℕ, ◌<◌, List, length, slice_index_or}
use Rattle.minimise.specs.Residuals.{SameLanguage}
use Rattle.num_system.specs.Sealed.{SystemValue}
use Rattle.num_system.specs.Tracks.{absent_system}
use Rattle.combinations.specs.Parts.{PartValue, systems_at}

-- the systems have the same digits, direction and language
pub record AreSameSystem (s t : SystemValue) : Type 0 where
  pub digits : s.digits ≡ t.digits
  pub direction : s.direction ≡ t.direction
  pub language : SameLanguage s.language t.language

-- there are as many tracks, and each has the same system
pub record HaveSameTracks (ss ts : List SystemValue) : Type 0 where
  pub count : length ss ≡ length ts
  pub each : (track : ℕ) → track < length ss → AreSameSystem (slice_index_or ss track absent_system) (slice_index_or ts track absent_system)

-- the first relation has a track, and each has the tracks of the first
abbrev pub HaveOneShape : List PartValue → Type 0
HaveOneShape parts = (place : ℕ) → place < length parts → (0 < length (systems_at parts 0)) × HaveSameTracks (systems_at parts 0) (systems_at parts place)

-- there is a relation, and the first has no track
abbrev pub HasNoTrack : List PartValue → Type 0
HasNoTrack parts = (0 < length parts) × (length (systems_at parts 0) ≡ 0)

-- the first relation has a track, and this is the place of the first that has other tracks
pub record IsFirstOther (parts : List PartValue) (place : ℕ) : Type 0 where
  pub tracks : 0 < length (systems_at parts 0)
  pub within : place < length parts
  pub other : ¬ HaveSameTracks (systems_at parts 0) (systems_at parts place)
  pub before : (earlier : ℕ) → earlier < place → HaveSameTracks (systems_at parts 0) (systems_at parts earlier)

-- the places, from 0, of the first relation and of the first that has other tracks; where the first has none, both are the first's
abbrev pub IsShapeFault : List PartValue → ℕ → ℕ → Type 0
IsShapeFault parts first other = (first ≡ 0) × ((HasNoTrack parts × (other ≡ 0)) ⊎ IsFirstOther parts other)
