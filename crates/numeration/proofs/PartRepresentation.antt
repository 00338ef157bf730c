-- What the tracks at some places represent.
use Rattle.std.proofs.Common.{◌≡◌, ℕ, zero, suc, ◌<◌, List, [], ◌∷◌, map, get_or, length, refl, ap, sym, ◌∙◌, subst, arith, ◌↔◌, IsTrue}
use Rattle.std.specs.List.{All, range_with_len}
use Rattle.std.proofs.lemmas.List.{length-map, get_or-map, ext_get_or, get_or_default}
use Rattle.std.proofs.lemmas.List.FromFn.{length-map-range_with_len, get_or-map-range_with_len}
use Rattle.std.proofs.lemmas.List.Elements.{All-head, All-tail}
use Rattle.digit_tuple.specs.Letters.{product, IsWord}
use Rattle.digit_tuple.specs.Parts.{picked, letter_part, part}
use Rattle.digit_tuple.specs.Paddings.{in_order}
use Rattle.digit_tuple.specs.Deterministic.{Automaton, accepts_of}
use Rattle.digit_tuple.specs.declared.direction.Direction.{Direction}
use Rattle.digit_tuple.proofs.PartLemmas.{IsWord-part, part-part}
use Rattle.numeration.specs.Words.{rank}
use Rattle.numeration.specs.Systems.{System, AreSystems, IsSystem, IsRepresentation}
use Rattle.numeration.specs.Representation.{sizes_of, letters_in, Represents}
use Rattle.numeration.specs.Relations.{HoldsOf}
use Rattle.numeration.specs.SomeTracks.{no_system, system_at, systems_at}
use Rattle.numeration.proofs.TrackLemmas.{track, AreRepresentations, tracks_represent, represents_from_tracks}
use Rattle.digit_tuple.proofs.PaddingLemmas.{in_order-map}

pub AreSystems-at : (ss : List System) (i : ℕ) → AreSystems ss → i < length ss → IsSystem (system_at ss i)
AreSystems-at [] i are within = absurd (omega (arith, within))
AreSystems-at (s ∷ ss) zero are within = are.0
AreSystems-at (s ∷ ss) (suc i) are within = AreSystems-at ss i are.1 (omega (arith, within))

-- a word represents one tuple alone
pub represented_only : (ss : List System) (w ns ms : List ℕ) → AreRepresentations ss w ns → AreRepresentations ss w ms → ns ≡ ms
represented_only ss w ns ms first second =
    ext_get_or 0 ns ms (first.count ∙ sym second.count)
    (λ i within.
    let inside : i < length ss = omega (arith, within, first.count) in
    sym (first.each i no_system inside).1 ∙ (second.each i no_system inside).1)

-- each track is in its system's language
abbrev pub AreValid : List System → List ℕ → Type 0
AreValid ss w = (i : ℕ) → i < length ss → IsTrue ((system_at ss i).test (track ss i w))

pub represented_valid : (ss : List System) (w ns : List ℕ) → AreRepresentations ss w ns → AreValid ss w
represented_valid ss w ns are i within = (are.each i no_system within).0

module _ (ss : List System) where
  abbrev rank_at : List ℕ → ℕ → ℕ
  rank_at w i = rank (system_at ss i).digits (system_at ss i).test (track ss i w)

  -- the ranks of the tracks
  abbrev pub ranks : List ℕ → List ℕ
  ranks w = map (rank_at w) (range_with_len 0 (length ss))

  pub valid_represented : (w : List ℕ) → AreValid ss w → AreRepresentations ss w (ranks w)
  valid_represented w valid = record {
    count = length-map-range_with_len (rank_at w) 0 (length ss);
    each = λ i d within.
        subst (λ (s : System). IsRepresentation s (track ss i w) (get_or (ranks w) i 0)) (get_or_default ss i no_system d within)
        (valid i within, sym (get_or-map-range_with_len (rank_at w) 0 (length ss) i i 0 within (omega arith)));
  }

  module _ (places : List ℕ) (inside : All (λ place. place < length ss) places) where
    inside_sizes : All (λ place. place < length (sizes_of ss)) places
    inside_sizes i d within = omega (arith, inside i d within, length-map ss (λ s. s.digits))

    pub sizes_at : sizes_of (systems_at places ss) ≡ picked places (sizes_of ss)
    sizes_at = by places inside
      where
        by : (ps : List ℕ) → All (λ place. place < length ss) ps → sizes_of (systems_at ps ss) ≡ picked ps (sizes_of ss)
        by [] all = refl
        by (p ∷ ps) all =
            ap (λ n. n ∷ sizes_of (systems_at ps ss)) (sym (get_or-map (λ s. s.digits) ss p no_system 0 (All-head (λ place. place < length ss) p ps all)))
            ∙ ap (λ ns. get_or (sizes_of ss) p 0 ∷ ns) (by ps (All-tail (λ place. place < length ss) p ps all))

    pub AreSystems-picked : AreSystems ss → AreSystems (systems_at places ss)
    AreSystems-picked are = by places inside
      where
        by : (ps : List ℕ) → All (λ place. place < length ss) ps → AreSystems (systems_at ps ss)
        by [] all = tt
        by (p ∷ ps) all = (AreSystems-at ss p are (All-head (λ place. place < length ss) p ps all), by ps (All-tail (λ place. place < length ss) p ps all))

    pub IsWord-at : (w : List ℕ) → IsWord (letters_in ss) w → IsWord (letters_in (systems_at places ss)) (part (sizes_of ss) places w)
    IsWord-at w over = subst (λ (ns : List ℕ). IsWord (product ns) (part (sizes_of ss) places w)) (sym sizes_at) (IsWord-part (sizes_of ss) places inside_sizes w over)

    -- a track of the part is one of the word
    track_of_part : (w : List ℕ) (i : ℕ) → IsWord (letters_in ss) w → i < length places → track (systems_at places ss) i (part (sizes_of ss) places w) ≡ track ss (get_or places i 0) w
    track_of_part w i over within =
        ap (λ (ns : List ℕ). part ns (i ∷ []) (part (sizes_of ss) places w)) sizes_at
        ∙ part-part (sizes_of ss) places inside_sizes (i ∷ []) w (λ j d less. one j d less) over
      where
        one : (j d : ℕ) → j < 1 → get_or (i ∷ []) j d < length places
        one zero d less = within
        one (suc j) d less = absurd (omega (arith, less))

    -- the part represents the numbers at the places
    pub represented_at : (w ns : List ℕ) → IsWord (letters_in ss) w → AreRepresentations ss w ns → AreRepresentations (systems_at places ss) (part (sizes_of ss) places w) (picked places ns)
    represented_at w ns over are = record {
      count = length-map places (λ place. get_or ns place 0) ∙ sym (length-map places (system_at ss));
      each = λ i d less.
          let within : i < length places = omega (arith, less, length-map places (system_at ss)) in
          let place = get_or places i 0 in
          subst (λ (s : System). IsRepresentation s (track (systems_at places ss) i (part (sizes_of ss) places w)) (get_or (picked places ns) i 0)) (sym (get_or-map (system_at ss) places i 0 d within))
          (subst (λ (v : List ℕ). IsRepresentation (system_at ss place) v (get_or (picked places ns) i 0)) (sym (track_of_part w i over within))
          (subst (λ n. IsRepresentation (system_at ss place) (track ss place w) n) (sym (get_or-map (λ p. get_or ns p 0) places i 0 0 within))
          (are.each place no_system (inside i 0 within))));
    }

    -- an automaton on these tracks accepts the part if and only if its relation holds of the numbers there
    pub holds_at : (direction : Direction) (P : List ℕ → Type 0) (a : Automaton) → HoldsOf direction (systems_at places ss) P a
        → (w ns : List ℕ) → IsWord (letters_in ss) w → IsWord (letters_in ss) (in_order direction w) → AreRepresentations ss (in_order direction w) ns
        → IsTrue (accepts_of a (part (sizes_of ss) places w)) ↔ P (picked places ns)
    holds_at direction P a holds w ns over turned are = (there, back)
      where
        at : AreRepresentations (systems_at places ss) (in_order direction (part (sizes_of ss) places w)) (picked places ns)
        at = subst (λ (v : List ℕ). AreRepresentations (systems_at places ss) v (picked places ns)) (sym (in_order-map direction (letter_part (sizes_of ss) places) w)) (represented_at (in_order direction w) ns turned are)

        there : IsTrue (accepts_of a (part (sizes_of ss) places w)) → P (picked places ns)
        there accepted =
            let found = (holds.accepts (part (sizes_of ss) places w) (IsWord-at w over)).0 accepted in
            let represented = tracks_represent (systems_at places ss) (in_order direction (part (sizes_of ss) places w)) found.0 found.1 in
            subst P (represented_only (systems_at places ss) (in_order direction (part (sizes_of ss) places w)) found.0 (picked places ns) represented at) found.2

        back : P (picked places ns) → IsTrue (accepts_of a (part (sizes_of ss) places w))
        back p = (holds.accepts (part (sizes_of ss) places w) (IsWord-at w over)).1 (picked places ns, represents_from_tracks (systems_at places ss) (in_order direction (part (sizes_of ss) places w)) (picked places ns) at, p)

    -- the tracks of a part that is accepted are valid
    pub valid_at : (direction : Direction) (P : List ℕ → Type 0) (a : Automaton) → HoldsOf direction (systems_at places ss) P a
        → (w : List ℕ) → IsWord (letters_in ss) w → IsWord (letters_in ss) (in_order direction w) → IsTrue (accepts_of a (part (sizes_of ss) places w))
        → (j : ℕ) → j < length places → IsTrue ((system_at ss (get_or places j 0)).test (track ss (get_or places j 0) (in_order direction w)))
    valid_at direction P a holds w over turned accepted j within =
        let found = (holds.accepts (part (sizes_of ss) places w) (IsWord-at w over)).0 accepted in
        let represented : Represents (systems_at places ss) (part (sizes_of ss) places (in_order direction w)) found.0 =
        subst (λ (v : List ℕ). Represents (systems_at places ss) v found.0) (in_order-map direction (letter_part (sizes_of ss) places) w) found.1 in
        let tracks = tracks_represent (systems_at places ss) (part (sizes_of ss) places (in_order direction w)) found.0 represented in
        let one = represented_valid (systems_at places ss) (part (sizes_of ss) places (in_order direction w)) found.0 tracks j (omega (arith, within, length-map places (system_at ss))) in
        subst (λ (s : System). IsTrue (s.test (track ss (get_or places j 0) (in_order direction w)))) (get_or-map (system_at ss) places j 0 no_system within)
        (subst (λ (v : List ℕ). IsTrue ((system_at (systems_at places ss) j).test v)) (track_of_part (in_order direction w) j turned within) one)
