-- A language for each track, and the words whose tracks are in their languages.
use Rattle.std.specs.Prelude.{◌≡◌, ℕ, ◌<◌, Bool, List, [], ◌∷◌, length, slice_index_or}
use Rattle.std.specs.List.{list_all, range_with_len}
use Rattle.digit_tuple.specs.Deterministic.{Automaton, accepts_of}
use Rattle.digit_tuple.specs.Parts.{part}
use Rattle.minimise.specs.Canonical.{IsCanonical}
use Rattle.minimise.specs.Residuals.{SameAfter}

abbrev pub no_language : Automaton
no_language = record { sizes = []; states = [] }

abbrev pub language_at : List Automaton → ℕ → Automaton
language_at languages track = slice_index_or languages track no_language

-- a canonical language over the digits of each track
pub record AreLanguages (sizes : List ℕ) (languages : List Automaton) : Type 0 where
  pub count : length languages ≡ length sizes
  pub each : (track : ℕ) → track < length sizes → IsCanonical (language_at languages track) × ((language_at languages track).sizes ≡ slice_index_or sizes track 0 ∷ [])

-- whether the word is valid: each track's word is in the track's language
abbrev pub is_valid : List ℕ → List Automaton → List ℕ → Bool
is_valid sizes languages w = list_all (λ track. accepts_of (language_at languages track) (part sizes (track ∷ []) w)) (range_with_len 0 (length languages))

-- each track's language has one residual after the track's words of both
abbrev pub TracksAlike : List ℕ → List Automaton → List ℕ → List ℕ → Type 0
TracksAlike sizes languages w v = (track : ℕ) → track < length languages → SameAfter (language_at languages track) (part sizes (track ∷ []) w) (part sizes (track ∷ []) v)
