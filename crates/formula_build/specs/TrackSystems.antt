-- Over which systems the tracks of a plan are.
use Rattle.std.specs.Prelude.{◌≡◌, ℕ, ◌<◌, true, List, [], map, length, slice_index_or, if◌then◌else◌}
use Rattle.digit_tuple.specs.declared.direction.Direction.{Direction}
use Rattle.num_system.specs.Sealed.{SystemValue}
use Rattle.num_system.specs.Tracks.{absent_system}
use Rattle.number_relations.specs.Relations.{RelationValue}
use Rattle.formula_parse.specs.Tokens.{Name}
use Rattle.term_plans.specs.Tracks.{Track, same_track, has_track}
use Rattle.term_plans.specs.Plans.{Plan, compared, added, number, called, lettered, renamed, constant, joined, paired, complement, projected, tracks}
use Rattle.formula_plan.specs.FactPlans.{Headers}
use Rattle.word_output.specs.Words.{WordValue}
use Rattle.plan_relations.specs.Libraries.{LibraryValue, IsRelationIn, IsWordIn, IsSystemIn}

-- the system of each track, by its name
abbrev pub TrackSystems : Type 0
TrackSystems = Track → Name

-- the same systems, but for one track
abbrev pub with_system : Track → Name → TrackSystems → TrackSystems
with_system t y on = λ u. if same_track t u then y else on u

-- all tracks of the one list have the direction of all tracks of the other
abbrev pub TracksHaveOneDirection : (Name → Direction) → TrackSystems → List Track → List Track → Type 0
TracksHaveOneDirection direction on ts us = (s t : Track) → has_track ts s ≡ true → has_track us t ≡ true → direction (on s) ≡ direction (on t)

-- all tracks of the one plan have the direction of all tracks of the other
abbrev pub HaveOneDirection : (Name → Direction) → TrackSystems → Plan → Plan → Type 0
HaveOneDirection direction on p q = TracksHaveOneDirection direction on (tracks p) (tracks q)

-- The tracks of a plan are over these systems: those of what it is made of do, a dropped track over any; arguments are over the systems of
-- an automaton's tracks, and indices over those of a word's; what is joined or paired has one direction.
abbrev pub IsOver : Headers → (Name → Direction) → TrackSystems → Plan → Type 0
IsOver h direction on (compared y r s t) = (on s ≡ y) × (on t ≡ y)
IsOver h direction on (added y s t u) = (on s ≡ y) × (on t ≡ y) × (on u ≡ y)
IsOver h direction on (number y t) = on t ≡ y
IsOver h direction on (called n ts) = map on ts ≡ h.of_automaton n
IsOver h direction on (lettered n ts r l) = map on ts ≡ h.of_word n
IsOver h direction on (renamed s t p) = (has_track (tracks p) s ≡ true) × IsOver h direction (with_system s (on t) on) p
IsOver h direction on (constant y c t) = on t ≡ y
IsOver h direction on (joined j p q) = IsOver h direction on p × IsOver h direction on q × HaveOneDirection direction on p q
IsOver h direction on (paired n ts r w us) = (map on ts ≡ h.of_word n) × (map on us ≡ h.of_word w) × TracksHaveOneDirection direction on ts us
IsOver h direction on (complement p) = IsOver h direction on p
IsOver h direction on (projected t p) = (has_track (tracks p) t ≡ true) × ((y : Name) × IsOver h direction (with_system t y on) p)

-- each name of a plan means something
abbrev pub IsKnown : LibraryValue → Plan → Type 0
IsKnown l (compared y r s t) = (system : SystemValue) × IsSystemIn l y system
IsKnown l (added y s t u) = (system : SystemValue) × IsSystemIn l y system
IsKnown l (number y t) = (system : SystemValue) × IsSystemIn l y system
IsKnown l (called n ts) = (r : RelationValue) × IsRelationIn l n r
IsKnown l (lettered n ts r b) = (w : WordValue) × IsWordIn l n w
IsKnown l (renamed s t p) = IsKnown l p
IsKnown l (constant y k t) = (system : SystemValue) × IsSystemIn l y system
IsKnown l (joined j p q) = IsKnown l p × IsKnown l q
IsKnown l (paired n ts r m us) = ((v : WordValue) × IsWordIn l n v) × ((w : WordValue) × IsWordIn l m w)
IsKnown l (complement p) = IsKnown l p
IsKnown l (projected t p) = IsKnown l p

-- the relation has a track over each of these systems, in their order
pub record IsOverSystems (l : LibraryValue) (systems : List Name) (r : RelationValue) : Type 0 where
  pub count : length r.names ≡ length systems
  pub each : (i : ℕ) → i < length systems → IsSystemIn l (slice_index_or systems i []) (slice_index_or r.systems i absent_system)

-- the word has a track over each of these systems, in their order
pub record IsWordOverSystems (l : LibraryValue) (systems : List Name) (w : WordValue) : Type 0 where
  pub count : length w.systems ≡ length systems
  pub each : (i : ℕ) → i < length systems → IsSystemIn l (slice_index_or systems i []) (slice_index_or w.systems i absent_system)

-- relations and words are over the systems of their headers, and systems have the directions of their names
pub record Fits (l : LibraryValue) (h : Headers) (direction : Name → Direction) : Type 0 where
  pub relations : (n : Name) (r : RelationValue) → IsRelationIn l n r → IsOverSystems l (h.of_automaton n) r
  pub words : (n : Name) (w : WordValue) → IsWordIn l n w → IsWordOverSystems l (h.of_word n) w
  pub directions : (y : Name) (s : SystemValue) → IsSystemIn l y s → s.direction ≡ direction y
