-- Relations whose tracks are under the names of tracks, each over its system.
use Rattle.std.proofs.Common.{◌≡◌, ℕ, true, List, [], map, sym, ap, ◌∙◌, subst}
use Rattle.std.specs.List.{All, Contains}
use Rattle.std.proofs.lemmas.List.{get_or-map}
use Rattle.digit_tuple.specs.Names.{place_of}
use Rattle.digit_tuple.proofs.NameLemmas.{place_of-contained}
use Rattle.num_system.specs.Sealed.{SystemValue}
use Rattle.num_system.specs.Tracks.{absent_system, system_under, systems_under}
use Rattle.number_relations.specs.Relations.{RelationValue}
use Rattle.number_relations.specs.Relations as relations
use Rattle.number_relations.specs.Placed.{each_once}
use Rattle.number_relations.proofs.OnceLemmas.{once_contains, once_others}
use Rattle.formula_parse.specs.Tokens.{Name}
use Rattle.term_plans.specs.Tracks.{Track, has_track}
use Rattle.plan_relations.specs.TrackNames.{track_name}
use Rattle.plan_relations.specs.Libraries.{LibraryValue, IsSystemIn}
use Rattle.formula_build.specs.TrackSystems.{TrackSystems}
use Rattle.formula_build.proofs.HasLemmas.{HasTrackNamed}

-- The relation has these tracks, each over its system.
pub record HasTracks (l : LibraryValue) (on : TrackSystems) (ts : List Track) (c : RelationValue) : Type 0 where
  pub there : (t : Track) → has_track ts t ≡ true → Contains c.names (track_name t)
  pub only : (name : List ℕ) → Contains c.names name → HasTrackNamed ts name
  pub over : (t : Track) → has_track ts t ≡ true → IsSystemIn l (on t) (relations.system_named c (track_name t))

-- the systems of names, found again by these
pub found_again : (under : List (List ℕ)) (systems : List SystemValue) (names : List (List ℕ)) (name : List ℕ) → Contains names name → system_under names (systems_under under systems names) name ≡ system_under under systems name
found_again under systems names name found =
    let spot = place_of-contained names name found in
    get_or-map (system_under under systems) names (place_of names name) [] absent_system spot.0 ∙ ap (system_under under systems) spot.1

-- a name among names that are all so is so
pub each_of : (P : List ℕ → Type 0) (names : List (List ℕ)) (name : List ℕ) → All P names → Contains names name → P name
each_of P names name all found = let spot = place_of-contained names name found in subst P spot.1 (all (place_of names name) [] spot.0)

-- tracks under names that may repeat, each of which is there once
module _ (l : LibraryValue) (on : TrackSystems) (ts : List Track) (under names : List (List ℕ)) (c : RelationValue) (same : c.names ≡ names)
    (there : (t : Track) → has_track ts t ≡ true → Contains names (track_name t)) (only : (name : List ℕ) → Contains names name → HasTrackNamed ts name) where
  has_name : (t : Track) → has_track ts t ≡ true → Contains c.names (track_name t)
  has_name t is = subst (λ (ns : List (List ℕ)). Contains ns (track_name t)) (sym same) (there t is)

  name_is_mentioned : (name : List ℕ) → Contains c.names name → HasTrackNamed ts name
  name_is_mentioned name found = only name (subst (λ (ns : List (List ℕ)). Contains ns name) same found)

  -- each over its own system
  pub tracks_under : (systems : List SystemValue) → c.systems ≡ systems_under under systems names
      → ((t : Track) → has_track ts t ≡ true → IsSystemIn l (on t) (system_under under systems (track_name t))) → HasTracks l on ts c
  tracks_under systems are over = record {
    there = has_name;
    only = name_is_mentioned;
    over = λ t is.
        subst (IsSystemIn l (on t))
        (sym (ap (λ (ss : List SystemValue). system_under c.names ss (track_name t)) are
        ∙ ap (λ (ns : List (List ℕ)). system_under ns (systems_under under systems names) (track_name t)) same
        ∙ found_again under systems names (track_name t) (there t is)))
        (over t is);
  }

-- in order of first occurrence of their names
module _ (l : LibraryValue) (on : TrackSystems) (ts : List Track) (under : List (List ℕ)) (c : RelationValue) (once : c.names ≡ each_once under)
    (there : (t : Track) → has_track ts t ≡ true → Contains under (track_name t)) (only : (name : List ℕ) → Contains under name → HasTrackNamed ts name) where
  once_there_is : (t : Track) → has_track ts t ≡ true → Contains (each_once under) (track_name t)
  once_there_is t is = once_contains under (track_name t) (there t is)

  once_only : (name : List ℕ) → Contains (each_once under) name → HasTrackNamed ts name
  once_only name found = only name (each_of (Contains under) (each_once under) name (once_others under) found)

  -- each over its own system
  pub placed_tracks : (systems : List SystemValue) → c.systems ≡ systems_under under systems (each_once under)
      → ((t : Track) → has_track ts t ≡ true → IsSystemIn l (on t) (system_under under systems (track_name t))) → HasTracks l on ts c
  placed_tracks = tracks_under l on ts under (each_once under) c once once_there_is once_only

  -- all over one system
  pub tracks_over_one : (y : Name) (s : SystemValue) → IsSystemIn l y s → c.systems ≡ map (λ name. s) (each_once under) → ((t : Track) → has_track ts t ≡ true → on t ≡ y) → HasTracks l on ts c
  tracks_over_one y s is_s are over = record {
    there = has_name l on ts under (each_once under) c once once_there_is once_only;
    only = name_is_mentioned l on ts under (each_once under) c once once_there_is once_only;
    over = λ t is.
        let spot = place_of-contained (each_once under) (track_name t) (once_contains under (track_name t) (there t is)) in
        let found : relations.system_named c (track_name t) ≡ s =
        ap (λ (ss : List SystemValue). system_under c.names ss (track_name t)) are
        ∙ ap (λ (names : List (List ℕ)). system_under names (map (λ name. s) (each_once under)) (track_name t)) once
        ∙ get_or-map (λ name. s) (each_once under) (place_of (each_once under) (track_name t)) [] absent_system spot.0 in
        subst (λ (x : Name). IsSystemIn l x (relations.system_named c (track_name t))) (sym (over t is)) (subst (IsSystemIn l y) (sym found) is_s);
  }
