-- Relations on numbers: automata of their representations, with a name and a system for each track.
use Rattle.std.specs.Prelude.{◌≡◌, ℕ, List, [], ◌∷◌, map, length, ◌↔◌}
use Rattle.std.specs.List.{AllByRecursion}
use Rattle.digit_tuple.specs.Deterministic.{Automaton}
use Rattle.minimise.specs.Tracked.{NamedAutomaton, IsTracked}
use Rattle.numeration.specs.Systems.{System}
use Rattle.numeration.specs.Relations.{HoldsOf}
use Rattle.num_system.specs.Sealed.{SystemValue, IsSealed}
use Rattle.num_system.specs.Tracks.{direction_of, ShareDirection, systems_of, system_under}
use Rattle.num_system.specs.Representations.{HasRepresentation}

-- the names of the tracks, their systems, and the automaton of the representations
pub record RelationValue : Type 0 where
  pub names : List (List ℕ)
  pub systems : List SystemValue
  pub automaton : Automaton

-- an automaton with names, and the systems of its tracks
abbrev pub relation_over : NamedAutomaton → List SystemValue → RelationValue
relation_over a systems = record { names = a.names; systems = systems; automaton = a.automaton }

-- the automaton with its names
abbrev pub named_of : RelationValue → NamedAutomaton
named_of r = record { names = r.names; automaton = r.automaton }

-- the systems of the tracks
abbrev pub systems_in : RelationValue → List System
systems_in r = systems_of r.systems

-- some representation of the numbers is accepted by an automaton over these systems
abbrev pub HoldsOver : List SystemValue → Automaton → List ℕ → Type 0
HoldsOver systems d ns = HasRepresentation (direction_of systems) (systems_of systems) d ns

-- each word that represents numbers of which some representation is accepted is accepted, and no other word is
abbrev pub IsClosedOver : List SystemValue → Automaton → Type 0
IsClosedOver systems d = HoldsOf (direction_of systems) (systems_of systems) (HoldsOver systems d) d

-- the relation holds of the numbers: some representation of them is accepted
abbrev pub RelationHolds : RelationValue → List ℕ → Type 0
RelationHolds r ns = HoldsOver r.systems r.automaton ns

-- the automaton is canonical, each track has a name of its own and a sealed system, these have one direction, and the automaton accepts the
-- representations of the numbers of which the relation holds, and no other words
pub record IsRelation (r : RelationValue) : Type 0 where
  pub tracked : IsTracked (named_of r)
  pub count : length r.systems ≡ length r.names
  pub sealed : AllByRecursion IsSealed r.systems
  pub shared_direction : ShareDirection r.systems
  pub closed : IsClosedOver r.systems r.automaton

-- the system of the track of this name
abbrev pub system_named : RelationValue → List ℕ → SystemValue
system_named r name = system_under r.names r.systems name

-- the relation has these tracks, and holds of numbers where this is true of the number under each name
pub record IsRelationOf (names : List (List ℕ)) (systems : List SystemValue) (holds : (List ℕ → ℕ) → Type 0) (r : RelationValue) : Type 0 where
  pub relation : IsRelation r
  pub names_are : r.names ≡ names
  pub systems_are : r.systems ≡ systems
  pub holds_of : (number_of : List ℕ → ℕ) → RelationHolds r (map number_of names) ↔ holds number_of
