-- Automata placed under names of which some may be the same: tracks under one name are one track.
use Rattle.std.specs.Prelude.{ℕ, List, [], ◌∷◌, map, if◌then◌else◌}
use Rattle.std.specs.Str.{bytes_eq}
use Rattle.digit_tuple.specs.Deterministic.{Automaton}
use Rattle.digit_tuple.specs.Names.{joint_names, names_without}
use Rattle.num_system.specs.Sealed.{SystemValue}
use Rattle.num_system.specs.Tracks.{systems_under}
use Rattle.number_relations.specs.Relations.{RelationValue, RelationHolds, IsRelationOf, HoldsOver}

-- each name once, in order of first occurrence
abbrev pub each_once : List (List ℕ) → List (List ℕ)
each_once [] = []
each_once (n ∷ names) = n ∷ names_without (each_once names) n

-- the relation that an automaton over these systems holds of, its tracks under these names
abbrev pub IsPlaced : Automaton → List SystemValue → List (List ℕ) → RelationValue → Type 0
IsPlaced d systems under r =
    IsRelationOf (each_once under) (systems_under under systems (each_once under)) (λ number_of. HoldsOver systems d (map number_of under)) r

-- the name after one name is changed
abbrev pub changed_name : List ℕ → List ℕ → List ℕ → List ℕ
changed_name from to name = if bytes_eq name from then to else name

abbrev pub changed_names : List ℕ → List ℕ → List (List ℕ) → List (List ℕ)
changed_names from to names = map (changed_name from to) names

-- the relation with one name changed, the tracks of one name being one track
abbrev pub IsRenamed : RelationValue → List ℕ → List ℕ → RelationValue → Type 0
IsRenamed r from to renamed = IsPlaced r.automaton r.systems (changed_names from to r.names) renamed

-- the relation with its tracks in byte order of their names
abbrev pub IsOrdered : RelationValue → RelationValue → Type 0
IsOrdered r ordered =
    IsRelationOf (joint_names r.names []) (systems_under r.names r.systems (joint_names r.names [])) (λ number_of. RelationHolds r (map number_of r.names)) ordered
