-- Words that represent tuples, track by track.
use Rattle.std.proofs.Common.{◌≡◌, ℕ, zero, suc, ◌/◌, ◌%◌, ◌<◌, List, [], ◌∷◌, get_or, length, refl, ap, sym, ◌∙◌, subst, arith}
use Rattle.std.proofs.lemmas.Simd.{map-map}
use Rattle.digit_tuple.specs.Parts.{part, letter_part}
use Rattle.numeration.specs.Systems.{System, IsRepresentation}
use Rattle.numeration.specs.Representation.{sizes_of, letters_in, first_track, other_tracks, Represents}

-- the track at a place
abbrev pub track : List System → ℕ → List ℕ → List ℕ
track ss i w = part (sizes_of ss) (i ∷ []) w

pub track-first : (s : System) (ss : List System) (w : List ℕ) → track (s ∷ ss) 0 w ≡ first_track ss w
track-first s ss [] = refl
track-first s ss (a ∷ w) =
    let same : letter_part (sizes_of (s ∷ ss)) (0 ∷ []) a ≡ a / letters_in ss = omega arith in
    ap (λ n. n ∷ track (s ∷ ss) 0 w) same ∙ ap (λ v. (a / letters_in ss) ∷ v) (track-first s ss w)

pub track-other : (s : System) (ss : List System) (i : ℕ) (w : List ℕ) → track (s ∷ ss) (suc i) w ≡ track ss i (other_tracks ss w)
track-other s ss i w = sym (map-map (letter_part (sizes_of ss) (i ∷ [])) (λ a. a % letters_in ss) w)

-- each track represents the number at its index
pub record AreRepresentations (ss : List System) (w ns : List ℕ) : Type 0 where
  pub count : length ns ≡ length ss
  pub each : (i : ℕ) (d : System) → i < length ss → IsRepresentation (get_or ss i d) (track ss i w) (get_or ns i 0)

one_more_representation : (s : System) (ss : List System) (w : List ℕ) (n : ℕ) (ns : List ℕ) → IsRepresentation s (first_track ss w) n → AreRepresentations ss (other_tracks ss w) ns → AreRepresentations (s ∷ ss) w (n ∷ ns)
one_more_representation s ss w n ns first rest = record { count = ap suc rest.count; each = at }
  where
    at : (i : ℕ) (d : System) → i < suc (length ss) → IsRepresentation (get_or (s ∷ ss) i d) (track (s ∷ ss) i w) (get_or (n ∷ ns) i 0)
    at zero d within = subst (λ v. IsRepresentation s v n) (sym (track-first s ss w)) first
    at (suc i) d within = subst (λ v. IsRepresentation (get_or ss i d) v (get_or ns i 0)) (sym (track-other s ss i w)) (rest.each i d (omega (arith, within)))

pub tracks_represent : (ss : List System) (w ns : List ℕ) → Represents ss w ns → AreRepresentations ss w ns
tracks_represent [] w [] represented = record { count = refl; each = λ i d within. absurd (omega (arith, within)) }
tracks_represent [] w (n ∷ ns) represented = absurd represented
tracks_represent (s ∷ ss) w [] represented = absurd represented
tracks_represent (s ∷ ss) w (n ∷ ns) represented = one_more_representation s ss w n ns represented.0 (tracks_represent ss (other_tracks ss w) ns represented.1)

pub represents_from_tracks : (ss : List System) (w ns : List ℕ) → AreRepresentations ss w ns → Represents ss w ns
represents_from_tracks [] w [] are = tt
represents_from_tracks [] w (n ∷ ns) are = absurd (omega (arith, are.count))
represents_from_tracks (s ∷ ss) w [] are = absurd (omega (arith, are.count))
represents_from_tracks (s ∷ ss) w (n ∷ ns) are = (
  subst (λ v. IsRepresentation s v n) (track-first s ss w) (are.each 0 s (omega arith)),
  represents_from_tracks ss (other_tracks ss w) ns (record {
    count = omega (arith, are.count);
    each = λ i d within. subst (λ v. IsRepresentation (get_or ss i d) v (get_or ns i 0)) (track-other s ss i w) (are.each (suc i) d (omega (arith, within)));
  }),
)
