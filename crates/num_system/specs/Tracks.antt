-- The systems of several tracks.
use Rattle.std.specs.Prelude.{◌≡◌, ℕ, ◌<◌, List, [], ◌∷◌, map, length, slice_index_or}
use Rattle.std.specs.List.{AllByRecursion}
use Rattle.digit_tuple.specs.Deterministic.{Automaton}
use Rattle.digit_tuple.specs.Names.{place_of}
use Rattle.digit_tuple.specs.declared.direction.Direction.{Direction}
use Rattle.digit_tuple.specs.declared.direction.Direction.TheVariants.{Msd}
use Rattle.numeration.specs.Systems.{System}
use Rattle.num_system.specs.Sealed.{SystemValue, system_of}

-- the direction of the tracks, that of the first; of no tracks any does, and this is msd
abbrev pub direction_of : List SystemValue → Direction
direction_of [] = Msd
direction_of (s ∷ ss) = s.direction

-- the tracks have one direction
abbrev pub ShareDirection : List SystemValue → Type 0
ShareDirection systems = AllByRecursion (λ (s : SystemValue). s.direction ≡ direction_of systems) systems

-- what their words and numbers are
abbrev pub systems_of : List SystemValue → List System
systems_of systems = map system_of systems

-- their languages
abbrev pub languages_of : List SystemValue → List Automaton
languages_of systems = map (λ (s : SystemValue). s.language) systems

-- the automaton that is taken where there is no system
abbrev pub no_automaton : Automaton
no_automaton = record { sizes = []; states = [] }

abbrev pub absent_system : SystemValue
absent_system = record {
  digits = 0;
  direction = Msd;
  language = no_automaton;
  adder = no_automaton;
  equal = no_automaton;
  less = no_automaton;
  successor = no_automaton;
  zero = no_automaton;
}

-- the system of the first track of this name, of tracks that have these names
abbrev pub system_under : List (List ℕ) → List SystemValue → List ℕ → SystemValue
system_under names systems name = slice_index_or systems (place_of names name) absent_system

-- the systems of these names, each that of the first track under it
abbrev pub systems_under : List (List ℕ) → List SystemValue → List (List ℕ) → List SystemValue
systems_under under systems names = map (system_under under systems) names

-- tracks of one name have one system
abbrev pub AgreeUnder : List (List ℕ) → List SystemValue → Type 0
AgreeUnder under systems = (i j : ℕ) → i < length under → j < length under → slice_index_or under i [] ≡ slice_index_or under j []
    → slice_index_or systems i absent_system ≡ slice_index_or systems j absent_system

-- the number of the first track of this name, of tracks that have these names and numbers
abbrev pub number_under : List (List ℕ) → List ℕ → List ℕ → ℕ
number_under names ns name = slice_index_or ns (place_of names name) 0
