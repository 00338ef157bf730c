-- Automata on the words of which two tracks are equal, one of which is dropped.
use Rattle.std.specs.Prelude.{◌≡◌, ◌≢◌, ℕ, List, [], ◌∷◌, map, if◌then◌else◌}
use Rattle.std.specs.List.{Contains}
use Rattle.std.specs.Str.{bytes_eq}
use Rattle.digit_tuple.specs.Deterministic.{letters_of}
use Rattle.digit_tuple.specs.Letters.{IsWord}
use Rattle.digit_tuple.specs.Names.{place_of, places_of, names_without}
use Rattle.digit_tuple.specs.Parts.{part}
use Rattle.minimise.specs.Tracked.{NamedAutomaton, size_of}
use Rattle.pad_rename.specs.StayingTracks.{staying_places, staying_sizes}

-- the name that takes a name's place: the kept one for the dropped one
abbrev pub name_for : List ℕ → List ℕ → List ℕ → List ℕ
name_for kept dropped name = if bytes_eq name dropped then kept else name

-- the names with the kept one in the place of the dropped one
abbrev pub names_for : List (List ℕ) → List ℕ → List ℕ → List (List ℕ)
names_for names kept dropped = map (name_for kept dropped) names

-- the names are those of two tracks, which have one size
pub record AreTwoTracks (a : NamedAutomaton) (kept dropped : List ℕ) : Type 0 where
  pub first : Contains a.names kept
  pub second : Contains a.names dropped
  pub distinct : kept ≢ dropped
  pub sizes : size_of a kept ≡ size_of a dropped

-- the word on the track of this name
abbrev pub track_word : NamedAutomaton → List ℕ → List ℕ → List ℕ
track_word a name w = part a.automaton.sizes (place_of a.names name ∷ []) w

-- the word without the dropped track
abbrev pub word_without : NamedAutomaton → List ℕ → List ℕ → List ℕ
word_without a dropped w = part a.automaton.sizes (staying_places a dropped) w

-- a word over all tracks of which two are equal, and that is w without the dropped one
pub record HasEqualTracks (a : NamedAutomaton) (kept dropped w x : List ℕ) : Type 0 where
  pub over : IsWord (letters_of a.automaton) x
  pub equal : track_word a kept x ≡ track_word a dropped x
  pub without : word_without a dropped x ≡ w

-- the word over the other tracks with the dropped one again, which has the digits of the kept one
abbrev pub word_with : NamedAutomaton → List ℕ → List ℕ → List ℕ → List ℕ
word_with a kept dropped w = part (staying_sizes a dropped) (places_of (names_without a.names dropped) (names_for a.names kept dropped)) w
