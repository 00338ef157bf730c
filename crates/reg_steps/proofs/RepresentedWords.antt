-- Words whose tracks are valid, and words that represent numbers.
use Rattle.std.proofs.Common.{◌≡◌, ℕ, ◌<◌, true, List, [], ◌∷◌, length, map, get_or, sym, ap, ◌∙◌, subst, arith}
use Rattle.std.specs.List.{range_with_len}
use Rattle.std.proofs.lemmas.List.{get_or_default}
use Rattle.std.proofs.lemmas.List.FromFn.{length-map-range_with_len, get_or-map-range_with_len}
use Rattle.digit_tuple.specs.Deterministic.{Automaton, accepts_of}
use Rattle.digit_tuple.specs.Parts.{part}
use Rattle.digit_tuple.specs.Paddings.{in_order}
use Rattle.digit_tuple.specs.declared.direction.Direction.{Direction}
use Rattle.product_op.specs.Validity.{language_at, is_valid}
use Rattle.numeration.specs.Words.{rank}
use Rattle.numeration.specs.Systems.{System, IsRepresentation}
use Rattle.numeration.specs.Representation.{Represents, sizes_of}
use Rattle.numeration.proofs.TrackLemmas.{track, tracks_represent, represents_from_tracks}
use Rattle.reg_steps.proofs.ValidWords.{each_track, all_tracks, IsInLanguage}
use Rattle.reg_steps.specs.Relations.{AreSystemLanguages}
use Rattle.automaton_steps.proofs.DirectionLemmas.{part-in_order}

-- the system that is taken where there is none
abbrev pub no_system : System
no_system = record { digits = 0; test = λ w. true }

module _ (direction : Direction) (ss : List System) (languages : List Automaton) (are : AreSystemLanguages direction ss languages) (w : List ℕ) where
  -- a track is valid where its language accepts it
  track_test : (i : ℕ) (s : System) → i < length ss → accepts_of (language_at languages i) (part (sizes_of ss) (i ∷ []) w) ≡ (get_or ss i s).test (track ss i (in_order direction w))
  track_test i s within =
      (are.each i s within).of_system.accepts (part (sizes_of ss) (i ∷ []) w)
      ∙ ap (get_or ss i s).test (sym (part-in_order direction (sizes_of ss) (i ∷ []) w))

  -- the rank of each track
  abbrev rank_at : ℕ → ℕ
  rank_at i = let s : System = get_or ss i no_system in rank s.digits s.test (track ss i (in_order direction w))

  abbrev ranks : List ℕ
  ranks = map rank_at (range_with_len 0 (length ss))

  -- a valid word represents numbers
  pub valid_represents : is_valid (sizes_of ss) languages w ≡ true → (ns : List ℕ) × Represents ss (in_order direction w) ns
  valid_represents valid = (ranks, represents_from_tracks ss (in_order direction w) ranks (record { count = length-map-range_with_len rank_at 0 (length ss); each = representation }))
    where
      representation : (i : ℕ) (d : System) → i < length ss → IsRepresentation (get_or ss i d) (track ss i (in_order direction w)) (get_or ranks i 0)
      representation i d within =
          let at : get_or ranks i 0 ≡ rank_at i = get_or-map-range_with_len rank_at 0 (length ss) i i 0 within (omega arith) in
          let same : get_or ss i no_system ≡ get_or ss i d = get_or_default ss i no_system d within in
          subst (λ (s : System). IsRepresentation s (track ss i (in_order direction w)) (get_or ranks i 0)) same
          ((sym (track_test i no_system within) ∙ each_track (sizes_of ss) languages w valid i (omega (arith, within, are.count))), sym at)

  -- and a word that represents numbers is valid
  pub represented_valid : (ns : List ℕ) → Represents ss (in_order direction w) ns → is_valid (sizes_of ss) languages w ≡ true
  represented_valid ns represented = all_tracks (sizes_of ss) languages w each
    where
      each : (i : ℕ) → i < length languages → IsInLanguage (sizes_of ss) languages w i
      each i within =
          let inside : i < length ss = omega (arith, within, are.count) in
          track_test i no_system inside ∙ ((tracks_represent ss (in_order direction w) ns represented).each i no_system inside).0
