-- What a word says of its tracks by a part that represents numbers.
use Rattle.std.proofs.Common.{◌≡◌, ℕ, zero, suc, ◌<◌, List, [], ◌∷◌, get_or, length, ap, ◌∙◌, subst, arith, IsTrue}
use Rattle.std.specs.List.{All, Contains}
use Rattle.std.proofs.lemmas.List.{get_or-map, get_or_default, length-map}
use Rattle.digit_tuple.specs.Letters.{IsWord}
use Rattle.digit_tuple.specs.Parts.{part}
use Rattle.digit_tuple.proofs.PartLemmas.{part-part}
use Rattle.numeration.specs.Systems.{System}
use Rattle.numeration.specs.Representation.{Represents, letters_in, sizes_of}
use Rattle.numeration.specs.SomeTracks.{no_system, system_at, systems_at}
use Rattle.numeration.proofs.PartRepresentation.{sizes_at, represented_valid}
use Rattle.numeration.proofs.TrackLemmas.{tracks_represent, track}

module _ (ss : List System) (places : List ℕ) (inside : All (λ place. place < length ss) places) where
  inside_sizes : All (λ place. place < length (sizes_of ss)) places
  inside_sizes i d within = omega (arith, inside i d within, length-map ss (λ s. s.digits))

  -- a track of the part is one of the word
  read_track : (w : List ℕ) (i : ℕ) → IsWord (letters_in ss) w → i < length places → track (systems_at places ss) i (part (sizes_of ss) places w) ≡ track ss (get_or places i 0) w
  read_track w i over within =
      ap (λ (ns : List ℕ). part ns (i ∷ []) (part (sizes_of ss) places w)) (sizes_at ss places inside)
      ∙ part-part (sizes_of ss) places inside_sizes (i ∷ []) w (λ j d less. one j d less) over
    where
      one : (j d : ℕ) → j < 1 → get_or (i ∷ []) j d < length places
      one zero d less = within
      one (suc j) d less = absurd (omega (arith, less))

  -- a track that is read is valid where the part represents numbers
  pub track_valid : (w ns : List ℕ) → IsWord (letters_in ss) w → Represents (systems_at places ss) (part (sizes_of ss) places w) ns
      → (i : ℕ) → Contains places i → IsTrue ((system_at ss i).test (track ss i w))
  track_valid w ns over represented i found =
      let tracks : List System = systems_at places ss in
      let read : List ℕ = part (sizes_of ss) places w in
      let valid = represented_valid tracks read ns (tracks_represent tracks read ns represented) found.0 (omega (arith, found.1, length-map places (system_at ss))) in
      let there : IsTrue ((system_at ss (get_or places found.0 0)).test (track ss (get_or places found.0 0) w)) =
      subst (λ (s : System). IsTrue (s.test (track ss (get_or places found.0 0) w))) (get_or-map (system_at ss) places found.0 0 no_system found.1)
      (subst (λ (v : List ℕ). IsTrue ((system_at tracks found.0).test v)) (read_track w found.0 over found.1) valid) in
      subst (λ (p : ℕ). IsTrue ((system_at ss p).test (track ss p w))) (get_or_default places found.0 0 i found.1 ∙ found.2) there
