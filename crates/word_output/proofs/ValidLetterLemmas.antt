-- The letters of valid words, by tuples of states of the function's automaton and of the languages of the tracks.
use Rattle.std.proofs.Common.{◌≡◌, ℕ, ℤ, ◌<◌, Bool, true, false, List, [], ◌∷◌, drop, slice_index, Option, None, Some, refl, sym, ap, ◌∙◌, arith, if◌then◌else◌}
use Rattle.std.specs.Option.{MatchOption, option_and_then}
use Rattle.std.proofs.lemmas.List.{get_or-map}
use Rattle.digit_tuple.specs.Deterministic.{Automaton, letters_of, run_of, states_of}
use Rattle.digit_tuple.specs.Explored.{key_at}
use Rattle.digit_tuple.specs.Letters.{IsWord}
use Rattle.digit_tuple.specs.Width.{HasApart, HasWidth}
use Rattle.digit_tuple.proofs.WidthLemmas.{HasApart-same, HasWidth-same}
use Rattle.residual_classes.specs.Classes.{first_of}
use Rattle.minimise.proofs.LeadLemmas.{lead}
use Rattle.product_op.specs.Readings.{Reading, all_true, flags_at, state_at}
use Rattle.product_op.specs.SinkKeys.{are_sinks}
use Rattle.product_op.specs.TrackReadings.{AllFitTracks, track_readings, validity_readings}
use Rattle.product_op.specs.Tuples.{AreTuples, LeadToOne, tuple_after}
use Rattle.product_op.specs.Validity.{is_valid}
use Rattle.product_op.proofs.KeyLemmas.{flags_at-lead}
use Rattle.product_op.proofs.ReadingLemmas.{AreCanonical-tracks, AreReadings-tracks, all_true-valid, alike_from_tracks, tracks_from_alike, word_read-all}
use Rattle.product_op.proofs.SinkKeyLemmas.{are_sinks-at}
use Rattle.product_op.proofs.TupleLemmas.{alike_from_one, one_from_alike, tuple_after-lead}
use Rattle.word_output.specs.LetterFunctions.{IsLetterFunction, LetterFunctionValue, letter_after}
use Rattle.word_output.specs.StateLetters.{letter_at, letter_led, letter_of_state}
use Rattle.word_output.specs.ValidLetters.{ValidLettersAlike, valid_letter, tuple_letters}
use Rattle.word_output.proofs.LetterLeads.{led, letter_after-lead, one_led, same_letters, sink_letter}

same_heads : (p q : ℕ) (ps qs : List ℕ) → p ∷ ps ≡ q ∷ qs → p ≡ q
same_heads p q ps qs same = cc

same_tails : (p q : ℕ) (ps qs : List ℕ) → p ∷ ps ≡ q ∷ qs → ps ≡ qs
same_tails p q ps qs same = cc

either_way : (b : Bool) (o : Option ℤ) → (if b then o else o) ≡ o
either_way true o = refl
either_way false o = refl

module _ (f : LetterFunctionValue) (is : IsLetterFunction f) (languages : List Automaton) (fit : AllFitTracks f.automaton.sizes languages) where
  abbrev d : Automaton
  d = f.automaton

  abbrev tracks : List Reading
  tracks = track_readings d.sizes languages

  abbrev readings : List Reading
  readings = validity_readings d languages

  -- a tuple begins with where the function's automaton is led
  tuple_is : (w : List ℕ) → IsWord (letters_of d) w → tuple_after readings w ≡ led f is w ∷ tuple_after tracks w
  tuple_is w over = ap (λ v. lead d (first_of d) v ∷ tuple_after tracks w) (word_read-all d w over)

  alike_from_tuples : (w v : List ℕ) → IsWord (letters_of d) w → IsWord (letters_of d) v → LeadToOne readings w v → ValidLettersAlike f languages w v
  alike_from_tuples w v over there same =
      let both = sym (tuple_is w over) ∙ same ∙ tuple_is v there in
      record {
        letters = same_letters f is w v over there (same_heads (led f is w) (led f is v) (tuple_after tracks w) (tuple_after tracks v) both);
        tracks = tracks_from_alike d.sizes languages w v over there
            (alike_from_one tracks (letters_of d) (AreReadings-tracks d.sizes languages fit) w v (same_tails (led f is w) (led f is v) (tuple_after tracks w) (tuple_after tracks v) both));
      }

  tuples_from_alike : (w v : List ℕ) → IsWord (letters_of d) w → IsWord (letters_of d) v → ValidLettersAlike f languages w v → LeadToOne readings w v
  tuples_from_alike w v over there alike =
      tuple_is w over
      ∙ ap (λ q. q ∷ tuple_after tracks w) (one_led f is w v over there alike.letters)
      ∙ ap (λ qs. led f is v ∷ qs) (one_from_alike tracks (letters_of d) (AreReadings-tracks d.sizes languages fit) (AreCanonical-tracks d.sizes languages fit) w v over there (alike_from_tracks d.sizes languages w v over there alike.tracks))
      ∙ sym (tuple_is v there)

  pub width-valid : (k : ℕ) → HasWidth (LeadToOne readings) (letters_of d) k → HasWidth (ValidLettersAlike f languages) (letters_of d) k
  width-valid k = HasWidth-same (LeadToOne readings) (ValidLettersAlike f languages) (letters_of d) k alike_from_tuples tuples_from_alike

  pub apart-valid : (k : ℕ) → HasApart (LeadToOne readings) (letters_of d) k → HasApart (ValidLettersAlike f languages) (letters_of d) k
  apart-valid k = HasApart-same (LeadToOne readings) (ValidLettersAlike f languages) (letters_of d) k tuples_from_alike

  -- the languages accept at the tuple where the word is valid
  flags_valid : (w : List ℕ) → IsWord (letters_of d) w → all_true (drop 1 (flags_at readings (tuple_after readings w))) ≡ is_valid d.sizes languages w
  flags_valid w over =
      ap (λ key. all_true (drop 1 (flags_at readings key))) (sym (tuple_after-lead readings w))
      ∙ ap (λ flags. all_true (drop 1 flags)) (flags_at-lead readings w)
      ∙ all_true-valid d.sizes languages w over

  -- the letter of the tuple of a word
  tuple_letter : (w : List ℕ) → IsWord (letters_of d) w → valid_letter f readings (tuple_after readings w) ≡ (if is_valid d.sizes languages w then letter_after f w else None)
  tuple_letter w over =
      ap (λ b. if b then letter_of_state f (slice_index (tuple_after readings w) 0) else None) (flags_valid w over)
      ∙ ap (λ key. if is_valid d.sizes languages w then letter_of_state f (slice_index key 0) else None) (tuple_is w over)
      ∙ ap (λ o. if is_valid d.sizes languages w then o else None) (sym (letter_after-lead f is w))

  none_at_sinks : (w : List ℕ) → IsWord (letters_of d) w → are_sinks readings (tuple_after readings w) ≡ true → (if is_valid d.sizes languages w then letter_after f w else None) ≡ None
  none_at_sinks w over sinks =
      let at : led f is w ≡ states_of d = ap (λ key. state_at key 0) (sym (tuple_is w over)) ∙ are_sinks-at readings (tuple_after readings w) 0 (omega arith) sinks in
      ap (λ o. if is_valid d.sizes languages w then o else None) (letter_after-lead f is w ∙ ap (letter_of_state f) at ∙ sink_letter f is) ∙ either_way (is_valid d.sizes languages w) None

  pub letters-tuples : (keys : List (List ℕ)) (e : Automaton) → AreTuples (letters_of d) readings keys e
      → (w : List ℕ) → IsWord (letters_of d) w → letter_led e (tuple_letters f readings keys) w ≡ (if is_valid d.sizes languages w then letter_after f w else None)
  letters-tuples keys e tuples w over = by (run_of e 0 w) (tuples.leads w over)
    where
      by : (o : Option ℕ) → MatchOption o (are_sinks readings (tuple_after readings w) ≡ true) (λ q. (q < states_of e) × (key_at keys q ≡ tuple_after readings w))
          → option_and_then (λ q. letter_at (tuple_letters f readings keys) q) o ≡ (if is_valid d.sizes languages w then letter_after f w else None)
      by None sinks = sym (none_at_sinks w over sinks)
      by (Some q) some = get_or-map (valid_letter f readings) keys q [] None (omega (arith, some.0, tuples.count)) ∙ ap (valid_letter f readings) some.1 ∙ tuple_letter w over
