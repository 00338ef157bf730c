-- Relations and the languages of tracks, read side by side.
use Rattle.std.proofs.Common.{◌≡◌, ℕ, ◌+◌, ◌<◌, ℤ, Bool, true, false, ◌&&◌, List, [], ◌∷◌, ◌++◌, length, map, drop, get_or, Option, None, Some, refl, sym, ap, ◌∙◌, subst, arith, if◌then◌else◌}
use Rattle.std.specs.List.{All}
use Rattle.std.specs.Option.{MatchOption, option_and_then}
use Rattle.std.proofs.Math.Seq.{drop-append_seam}
use Rattle.std.proofs.lemmas.List.{get_or-map, length-append, length-map}
use Rattle.std.proofs.lemmas.List.Elements.{All-append, All-cons, All-head, All-map, All-nil, All-tail}
use Rattle.std.proofs.lemmas.List.FromFn.{length-map-range_with_len}
use Rattle.digit_tuple.specs.Deterministic.{Automaton, accepting_of, accepts_of, run_of, states_of}
use Rattle.digit_tuple.specs.Explored.{key_at}
use Rattle.digit_tuple.specs.Letters.{IsWord, product}
use Rattle.residual_classes.proofs.SinkLemmas.{not_accepting_past}
use Rattle.minimise.specs.Canonical.{IsCanonical}
use Rattle.minimise.specs.Residuals.{SameAfter}
use Rattle.product_op.specs.Readings.{AreAlike, AreCanonical, AreReadings, IsReading, Reading, all_true, flags_at, flags_of, reading_at, state_at, word_read}
use Rattle.product_op.specs.SinkKeys.{are_sinks}
use Rattle.product_op.specs.TrackReadings.{AllFitTracks, track_reading, track_readings, whole_reading}
use Rattle.product_op.specs.Tuples.{AreTuples, LeadToOne, tuple_after}
use Rattle.product_op.specs.Validity.{TracksAlike, is_valid}
use Rattle.product_op.proofs.KeyLemmas.{flags_at-lead}
use Rattle.product_op.proofs.ReaderLemmas.{all_true_more}
use Rattle.product_op.proofs.ReadingLemmas.{AreCanonical-tracks, AreReadings-tracks, IsReading-whole, SameAfter-words, alike_cons, alike_from_tracks, alike_head, alike_tail, all_true-valid, tracks_from_alike, word_read-all}
use Rattle.product_op.proofs.SinkKeyLemmas.{are_sinks-at}
use Rattle.product_op.proofs.TupleLemmas.{alike_from_one, one_from_alike, tuple_after-lead}
use Rattle.word_output.specs.StateLetters.{letter_at, letter_led}
use Rattle.combinations.specs.Parts.{PartValue}
use Rattle.combinations.specs.HeldLetters.{combined_readings, first_held, held_letter, held_letters, part_readings}
use Rattle.combinations.proofs.HeldLemmas.{first_held-append}

-- a relation's automaton is canonical, over tracks of these sizes
pub record IsOverSizes (sizes : List ℕ) (part : PartValue) : Type 0 where
  pub canonical : IsCanonical part.relation.automaton
  pub sizes_are : part.relation.automaton.sizes ≡ sizes

-- whether each relation accepts a word
abbrev pub accepted : List PartValue → List ℕ → List Bool
accepted parts w = map (λ (part : PartValue). accepts_of part.relation.automaton w) parts

-- each relation has one residual after both words
abbrev pub PartsAlike : List PartValue → List ℕ → List ℕ → Type 0
PartsAlike parts w v = All (λ (part : PartValue). SameAfter part.relation.automaton w v) parts

module _ (sizes : List ℕ) (languages : List Automaton) (fit : AllFitTracks sizes languages) where
  abbrev tracks : List Reading
  tracks = track_readings sizes languages

  abbrev beside : List PartValue → List Reading
  beside parts = combined_readings parts sizes languages

  own_word : (part : PartValue) → IsOverSizes sizes part → (w : List ℕ) → IsWord (product sizes) w → IsWord (product part.relation.automaton.sizes) w
  own_word part is w over = subst (λ (ss : List ℕ). IsWord (product ss) w) (sym is.sizes_are) over

  -- a relation reads the whole word
  whole_word : (part : PartValue) → IsOverSizes sizes part → (w : List ℕ) → IsWord (product sizes) w → word_read (whole_reading part.relation.automaton) w ≡ w
  whole_word part is w over = word_read-all part.relation.automaton w (own_word part is w over)

  reading_of : (part : PartValue) → IsOverSizes sizes part → IsReading (product sizes) (whole_reading part.relation.automaton)
  reading_of part is = subst (λ (ss : List ℕ). IsReading (product ss) (whole_reading part.relation.automaton)) is.sizes_are (IsReading-whole part.relation.automaton is.canonical.table)

  pub readings_are : (parts : List PartValue) → All (IsOverSizes sizes) parts → AreReadings (product sizes) (combined_readings parts sizes languages)
  readings_are parts are =
      All-append (IsReading (product sizes)) (part_readings parts) tracks
      (All-map (IsReading (product sizes)) (λ (part : PartValue). whole_reading part.relation.automaton) parts (λ place default inside. reading_of (get_or parts place default) (are place default inside)))
      (AreReadings-tracks sizes languages fit)

  canonical_are : (parts : List PartValue) → All (IsOverSizes sizes) parts → AreCanonical (combined_readings parts sizes languages)
  canonical_are parts are =
      All-append (λ (r : Reading). IsCanonical r.automaton) (part_readings parts) tracks
      (All-map (λ (r : Reading). IsCanonical r.automaton) (λ (part : PartValue). whole_reading part.relation.automaton) parts (λ place default inside. (are place default inside).canonical))
      (AreCanonical-tracks sizes languages fit)

  -- one residual of each reading is one of each relation and of each track's language
  module _ (w v : List ℕ) (over : IsWord (product sizes) w) (there : IsWord (product sizes) v) where
    split_alike : (parts : List PartValue) → All (IsOverSizes sizes) parts → AreAlike (part_readings parts ++ tracks) w v → PartsAlike parts w v × AreAlike tracks w v
    split_alike [] are alike = (All-nil (λ (part : PartValue). SameAfter part.relation.automaton w v), alike)
    split_alike (part ∷ parts) are alike =
        let is = All-head (IsOverSizes sizes) part parts are in
        let d = part.relation.automaton in
        let rest = split_alike parts (All-tail (IsOverSizes sizes) part parts are) (alike_tail (whole_reading d) (part_readings parts ++ tracks) w v alike) in
        let first : SameAfter d w v =
        SameAfter-words d (word_read (whole_reading d) w) w (word_read (whole_reading d) v) v (whole_word part is w over) (whole_word part is v there) (alike_head (whole_reading d) (part_readings parts ++ tracks) w v alike) in
        (All-cons (λ (p : PartValue). SameAfter p.relation.automaton w v) part parts first rest.0, rest.1)

    joined_alike : (parts : List PartValue) → All (IsOverSizes sizes) parts → PartsAlike parts w v → AreAlike tracks w v → AreAlike (part_readings parts ++ tracks) w v
    joined_alike [] are same alike = alike
    joined_alike (part ∷ parts) are same alike =
        let is = All-head (IsOverSizes sizes) part parts are in
        let d = part.relation.automaton in
        let first : SameAfter d (word_read (whole_reading d) w) (word_read (whole_reading d) v) =
        SameAfter-words d w (word_read (whole_reading d) w) v (word_read (whole_reading d) v) (sym (whole_word part is w over)) (sym (whole_word part is v there))
        (All-head (λ (p : PartValue). SameAfter p.relation.automaton w v) part parts same) in
        alike_cons (whole_reading d) (part_readings parts ++ tracks) w v first
        (joined_alike parts (All-tail (IsOverSizes sizes) part parts are) (All-tail (λ (p : PartValue). SameAfter p.relation.automaton w v) part parts same) alike)

  module _ (parts : List PartValue) (are : All (IsOverSizes sizes) parts) where
    pub one_tuple_alike : (w v : List ℕ) → IsWord (product sizes) w → IsWord (product sizes) v → LeadToOne (beside parts) w v → PartsAlike parts w v × TracksAlike sizes languages w v
    one_tuple_alike w v over there same =
        let both = split_alike w v over there parts are (alike_from_one (beside parts) (product sizes) (readings_are parts are) w v same) in
        (both.0, tracks_from_alike sizes languages w v over there both.1)

    pub alike_one_tuple : (w v : List ℕ) → IsWord (product sizes) w → IsWord (product sizes) v → PartsAlike parts w v → TracksAlike sizes languages w v → LeadToOne (beside parts) w v
    alike_one_tuple w v over there same tracks_same =
        one_from_alike (beside parts) (product sizes) (readings_are parts are) (canonical_are parts are) w v over there
        (joined_alike w v over there parts are same (alike_from_tracks sizes languages w v over there tracks_same))

  -- which of them accept
  flags_joined : (parts : List PartValue) → All (IsOverSizes sizes) parts → (w : List ℕ) → IsWord (product sizes) w → flags_of (part_readings parts ++ tracks) w ≡ accepted parts w ++ flags_of tracks w
  flags_joined [] are w over = refl
  flags_joined (part ∷ parts) are w over =
      let d = part.relation.automaton in
      ap (λ (v : List ℕ). accepts_of d v ∷ flags_of (part_readings parts ++ tracks) w) (whole_word part (All-head (IsOverSizes sizes) part parts are) w over)
      ∙ ap (λ (flags : List Bool). accepts_of d w ∷ flags) (flags_joined parts (All-tail (IsOverSizes sizes) part parts are) w over)

  drop_accepted : (parts : List PartValue) (w : List ℕ) (flags : List Bool) → drop (length parts) (accepted parts w ++ flags) ≡ flags
  drop_accepted parts w flags =
      ap (λ (n : ℕ). drop n (accepted parts w ++ flags)) (sym (length-map parts (λ (part : PartValue). accepts_of part.relation.automaton w)))
      ∙ drop-append_seam (accepted parts w) flags

  module _ (rest : Option ℤ) (parts : List PartValue) (are : All (IsOverSizes sizes) parts) (some : 0 < length languages) where
    -- the letter of a word: where it is valid, the value of the first relation that accepts, or the rest
    abbrev pub letter_here : List ℕ → Option ℤ
    letter_here w = if is_valid sizes languages w then first_held rest parts (accepted parts w) else None

    held : (w : List ℕ) → IsWord (product sizes) w → held_letter rest parts (beside parts) (tuple_after (beside parts) w) ≡ letter_here w
    held w over =
        let suffix : List Bool = flags_of tracks w in
        let flags : flags_at (beside parts) (tuple_after (beside parts) w) ≡ accepted parts w ++ suffix =
        ap (flags_at (beside parts)) (sym (tuple_after-lead (beside parts) w)) ∙ flags_at-lead (beside parts) w ∙ flags_joined parts are w over in
        ap (λ (fs : List Bool). if all_true (drop (length parts) fs) then first_held rest parts fs else None) flags
        ∙ ap (λ (fs : List Bool). if all_true fs then first_held rest parts (accepted parts w ++ suffix) else None) (drop_accepted parts w suffix)
        ∙ ap (λ (b : Bool). if b then first_held rest parts (accepted parts w ++ suffix) else None) (all_true-valid sizes languages w over)
        ∙ ap (λ (x : Option ℤ). if is_valid sizes languages w then x else None) (first_held-append rest parts (λ (part : PartValue). accepts_of part.relation.automaton w) suffix)

    -- the first track's language comes after the relations
    after_within : length parts < length (beside parts)
    after_within =
        omega (
          arith,
          some,
          length-append (part_readings parts) tracks,
          length-map parts (λ (part : PartValue). whole_reading part.relation.automaton),
          length-map-range_with_len (track_reading sizes languages) 0 (length languages),
        )

    -- where all are led to their sinks there is no letter
    none_at_sinks : (w : List ℕ) → are_sinks (beside parts) (tuple_after (beside parts) w) ≡ true → held_letter rest parts (beside parts) (tuple_after (beside parts) w) ≡ None
    none_at_sinks w sinks =
        let key : List ℕ = tuple_after (beside parts) w in
        let at = are_sinks-at (beside parts) key (length parts) after_within sinks in
        let refuses : accepting_of (reading_at (beside parts) (length parts)).automaton (state_at key (length parts)) ≡ false =
        not_accepting_past (reading_at (beside parts) (length parts)).automaton (state_at key (length parts)) (omega (arith, at)) in
        let after : Bool = all_true (drop (length parts + 1) (flags_at (beside parts) key)) in
        ap (λ (b : Bool). if b then first_held rest parts (flags_at (beside parts) key) else None)
        (all_true_more (beside parts) key (length parts) after_within ∙ ap (λ (b : Bool). b && after) refuses)

    pub letters_held : (keys : List (List ℕ)) (e : Automaton) → AreTuples (product sizes) (beside parts) keys e
        → (w : List ℕ) → IsWord (product sizes) w → letter_led e (held_letters rest parts (beside parts) keys) w ≡ letter_here w
    letters_held keys e tuples w over = by (run_of e 0 w) (tuples.leads w over) ∙ held w over
      where
        by : (o : Option ℕ) → MatchOption o (are_sinks (beside parts) (tuple_after (beside parts) w) ≡ true) (λ q. (q < states_of e) × (key_at keys q ≡ tuple_after (beside parts) w))
            → option_and_then (λ q. letter_at (held_letters rest parts (beside parts) keys) q) o ≡ held_letter rest parts (beside parts) (tuple_after (beside parts) w)
        by None sinks = sym (none_at_sinks w sinks)
        by (Some q) some = get_or-map (held_letter rest parts (beside parts)) keys q [] None (omega (arith, some.0, tuples.count)) ∙ ap (held_letter rest parts (beside parts)) some.1
