-- Automata that read their tracks of a word.
use Rattle.std.specs.Prelude.{◌≡◌, ℕ, ◌<◌, List, [], ◌∷◌, length, map, slice_index_or, if◌then◌else◌}
use Rattle.std.specs.List.{range_with_len}
use Rattle.digit_tuple.specs.Deterministic.{Automaton}
use Rattle.digit_tuple.specs.Names.{places_of}
use Rattle.digit_tuple.specs.Parts.{parts_of_letters}
use Rattle.minimise.specs.Canonical.{IsCanonical}
use Rattle.minimise.specs.Tracked.{NamedAutomaton}
use Rattle.product_op.specs.declared.op.Op.{Op}
use Rattle.product_op.specs.Connectives.{among_valid}
use Rattle.digit_tuple.specs.Names.{joint_names}
use Rattle.product_op.specs.Tracks.{joint_sizes}
use Rattle.product_op.specs.Validity.{language_at}
use Rattle.product_op.specs.Readings.{Reading}

-- the automaton reads the tracks at these places
abbrev pub read_on : List ℕ → Automaton → List ℕ → Reading
read_on sizes d places = record { automaton = d; parts = parts_of_letters sizes places }

-- the automaton reads all tracks
abbrev pub whole_reading : Automaton → Reading
whole_reading d = read_on d.sizes d (range_with_len 0 (length d.sizes))

-- the language of each track, reading it
abbrev pub track_reading : List ℕ → List Automaton → ℕ → Reading
track_reading sizes languages track = read_on sizes (language_at languages track) (track ∷ [])

abbrev pub track_readings : List ℕ → List Automaton → List Reading
track_readings sizes languages = map (track_reading sizes languages) (range_with_len 0 (length languages))

-- the languages that count under a connective
abbrev pub counted_of : Op → List Automaton → List Automaton
counted_of op languages = if among_valid op then languages else []

-- an argument of a product
abbrev pub argument_reading : NamedAutomaton → NamedAutomaton → NamedAutomaton → Reading
argument_reading a b t = read_on (joint_sizes a b) t.automaton (places_of (joint_names a.names b.names) t.names)

-- both arguments, and the languages that count
abbrev pub product_readings : Op → NamedAutomaton → NamedAutomaton → List Automaton → List Reading
product_readings op a b languages = argument_reading a b a ∷ argument_reading a b b ∷ track_readings (joint_sizes a b) (counted_of op languages)

-- the argument on all its tracks, and the languages
abbrev pub validity_readings : Automaton → List Automaton → List Reading
validity_readings d languages = whole_reading d ∷ track_readings d.sizes languages

-- the language is a canonical one over the digits of the track
pub record FitsTrack (sizes : List ℕ) (languages : List Automaton) (track : ℕ) : Type 0 where
  pub within : track < length sizes
  pub canonical : IsCanonical (language_at languages track)
  pub size : (language_at languages track).sizes ≡ slice_index_or sizes track 0 ∷ []

abbrev pub AllFitTracks : List ℕ → List Automaton → Type 0
AllFitTracks sizes languages = (track : ℕ) → track < length languages → FitsTrack sizes languages track
