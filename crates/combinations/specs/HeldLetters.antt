-- The letters of tuples of states, by the automata that accept there. Nobody has to believe this: it serves the code.
use Rattle.std.specs.Prelude.{ℕ, ℤ, Bool, List, [], ◌∷◌, ◌++◌, drop, length, map, Option, None, Some, if◌then◌else◌}
use Rattle.digit_tuple.specs.Deterministic.{Automaton}
use Rattle.product_op.specs.Readings.{Reading, all_true, flags_at}
use Rattle.product_op.specs.TrackReadings.{track_readings, whole_reading}
use Rattle.combinations.specs.Parts.{PartValue}

-- the value of the first relation whose flag is set, and the rest where none is
abbrev pub first_held : Option ℤ → List PartValue → List Bool → Option ℤ
first_held rest [] flags = rest
first_held rest (part ∷ parts) [] = rest
first_held rest (part ∷ parts) (flag ∷ flags) = if flag then Some part.value else first_held rest parts flags

-- the relations, each reading all tracks
abbrev pub part_readings : List PartValue → List Reading
part_readings parts = map (λ (part : PartValue). whole_reading part.relation.automaton) parts

-- the relations, and the languages, each reading its track
abbrev pub combined_readings : List PartValue → List ℕ → List Automaton → List Reading
combined_readings parts sizes languages = part_readings parts ++ track_readings sizes languages

-- the value of the first relation that accepts at the tuple, where the languages after the relations accept
abbrev pub held_letter : Option ℤ → List PartValue → List Reading → List ℕ → Option ℤ
held_letter rest parts readings key = if all_true (drop (length parts) (flags_at readings key)) then first_held rest parts (flags_at readings key) else None

abbrev pub held_letters : Option ℤ → List PartValue → List Reading → List (List ℕ) → List (Option ℤ)
held_letters rest parts readings keys = map (held_letter rest parts readings) keys
