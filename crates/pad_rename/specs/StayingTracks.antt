-- The tracks that stay when one is dropped.
use Rattle.std.specs.Prelude.{ℕ, List}
use Rattle.digit_tuple.specs.Names.{places_of, names_without}
use Rattle.digit_tuple.specs.Parts.{picked}
use Rattle.minimise.specs.Tracked.{NamedAutomaton}

-- the places of the tracks that stay when one is dropped
abbrev pub staying_places : NamedAutomaton → List ℕ → List ℕ
staying_places a track = places_of a.names (names_without a.names track)

-- the sizes of the tracks that stay
abbrev pub staying_sizes : NamedAutomaton → List ℕ → List ℕ
staying_sizes a track = picked (staying_places a track) a.automaton.sizes
