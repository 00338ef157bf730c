-- Automata whose tracks are under other names, of which some may be the same: tracks under one name are read as one track.
use Rattle.std.specs.Prelude.{◌≡◌, ℕ, ◌<◌, List, [], ◌∷◌, length, slice_index_or}
use Rattle.std.specs.List.{All, Contains}
use Rattle.digit_tuple.specs.Letters.{product, IsWord}
use Rattle.digit_tuple.specs.Names.{AreDistinct, place_of, places_of}
use Rattle.digit_tuple.specs.Parts.{picked, part}

-- the sizes of the tracks of these names: tracks of the sizes that are given have the names `under`
abbrev pub sizes_under : List ℕ → List (List ℕ) → List (List ℕ) → List ℕ
sizes_under sizes under names = picked (places_of under names) sizes

-- the word that is read in a word over the tracks of these names: each of its tracks has the digits of the track whose name it has
-- in `under`
abbrev pub word_under : List ℕ → List (List ℕ) → List (List ℕ) → List ℕ → List ℕ
word_under sizes under names w = part (sizes_under sizes under names) (places_of names under) w

-- x is read in w: x is as long, and has on each track the digits that w has on the track of its name
pub record IsReadUnder (sizes : List ℕ) (under names : List (List ℕ)) (w x : List ℕ) : Type 0 where
  pub of_names : IsWord (product (sizes_under sizes under names)) w
  pub of_tracks : IsWord (product sizes) x
  pub long : length x ≡ length w
  pub tracks : (i : ℕ) → i < length under → part sizes (i ∷ []) x ≡ part (sizes_under sizes under names) (place_of names (slice_index_or under i []) ∷ []) w

-- a name for each track, where tracks of one name have one size; and these names, each once
pub record IsSubstitution (sizes : List ℕ) (under names : List (List ℕ)) : Type 0 where
  pub count : length under ≡ length sizes
  pub agree : (i j : ℕ) → i < length under → j < length under → slice_index_or under i [] ≡ slice_index_or under j [] → slice_index_or sizes i 0 ≡ slice_index_or sizes j 0
  pub distinct : AreDistinct names
  pub there : All (Contains names) under
  pub no_others : All (Contains under) names
