-- Pairs of states of two functions over the same tracks: where words lead, and which letters compare.
use Rattle.std.proofs.Common.{◌≡◌, ◌↔◌, ◌⊎◌, inl, inr, ◌+◌, ◌-◌, ◌<◌, ◌≤◌, ℕ, Bool, true, false, List, [], ◌∷◌, ◌++◌, length, get_or, slice_index, slice_index_or, Option, None, Some, IsTrue, sym, ap, ◌∙◌, subst, arith, true≢false}
use Rattle.std.specs.Option.{MatchOption, option_map_or}
use Rattle.std.proofs.lemmas.Bool.{cases_lt}
use Rattle.std.proofs.lemmas.List.{get_or-append_right, get_or_append_left}
use Rattle.std.proofs.lemmas.List.Elements.{All-cons, All-nil}
use Rattle.std.proofs.lemmas.Option.{none-some}
use Rattle.digit_tuple.specs.Deterministic.{Automaton, accepting_of, accepts_of, letters_of, run_of, states_of}
use Rattle.digit_tuple.specs.Explored.{key_at}
use Rattle.digit_tuple.specs.Letters.{IsWord, product}
use Rattle.digit_tuple.specs.Reflagged.{IsReflagged}
use Rattle.digit_tuple.specs.Width.{HasApart, HasWidth}
use Rattle.digit_tuple.proofs.WidthLemmas.{HasApart-same, HasWidth-same}
use Rattle.residual_classes.specs.Classes.{first_of}
use Rattle.minimise.specs.Residuals.{SameLanguage}
use Rattle.minimise.proofs.LeadLemmas.{lead}
use Rattle.num_system.specs.declared.comparison.Comparison.{Comparison}
use Rattle.product_op.specs.Readings.{AreReadings, IsReading, Reading, reading_in, readings_in}
use Rattle.product_op.specs.declared.reader.Reader.{Reader}
use Rattle.product_op.specs.SinkKeys.{are_sinks}
use Rattle.product_op.specs.TrackReadings.{whole_reading}
use Rattle.product_op.specs.Tuples.{AreTuples, LeadToOne, tuple_after}
use Rattle.product_op.proofs.ReadingLemmas.{IsReading-whole, word_read-all}
use Rattle.product_op.proofs.SinkKeyLemmas.{are_sinks-at}
use Rattle.word_output.specs.KeyLetters.{BothAlike, BothCompare, KeyCompares}
use Rattle.word_output.specs.LetterFunctions.{IsLetterFunction, LetterFunctionValue, letter_after}
use Rattle.word_output.specs.StateLetters.{letter_of_state}
use Rattle.word_output.proofs.LetterLeads.{led, letter_after-lead, one_led, same_letters, sink_letter}
use Rattle.word_output.proofs.LetterSetLemmas.{accepts-run, run-reflagged}

-- one more flag
pub flags_more : (P : ℕ → Type 0) (flags : List Bool) (flag : Bool) (n : ℕ) → length flags ≡ n → ((q : ℕ) → q < n → IsTrue (slice_index_or flags q false) ↔ P q) → (IsTrue flag ↔ P n)
    → (q : ℕ) → q < n + 1 → IsTrue (slice_index_or (flags ++ flag ∷ []) q false) ↔ P q
flags_more P flags flag n count before here q below = by (cases_lt q n)
  where
    by : (q < n) ⊎ (n ≤ q) → IsTrue (slice_index_or (flags ++ flag ∷ []) q false) ↔ P q
    by (inl less) = subst (λ b. IsTrue b ↔ P q) (sym (get_or_append_left flags (flag ∷ []) false q (omega (arith, less, count)))) (before q less)
    by (inr past) =
        let same : n ≡ q = omega (arith, past, below) in
        let none : q - n ≡ 0 = omega (arith, same) in
        subst (λ b. IsTrue b ↔ P q) (sym (get_or-append_right flags (flag ∷ []) n q false count past ∙ ap (λ k. get_or (flag ∷ []) k false) none)) (subst (λ k. IsTrue flag ↔ P k) same here)

-- two readers of whole automata
pub two_readings : (readers : List Reader) (r s : Reader) (d e : Automaton) → readers ≡ r ∷ s ∷ [] → reading_in r ≡ whole_reading d → reading_in s ≡ whole_reading e
    → readings_in readers ≡ whole_reading d ∷ whole_reading e ∷ []
two_readings readers r s d e same one two = ap readings_in same ∙ (λ i. one i ∷ two i ∷ [])

module _ (f g : LetterFunctionValue) (is_f : IsLetterFunction f) (is_g : IsLetterFunction g) (same : g.automaton.sizes ≡ f.automaton.sizes) where
  abbrev pub both : List Reading
  both = whole_reading f.automaton ∷ whole_reading g.automaton ∷ []

  pub reads_both : AreReadings (letters_of f.automaton) both
  reads_both =
      All-cons (IsReading (letters_of f.automaton)) (whole_reading f.automaton) (whole_reading g.automaton ∷ []) (IsReading-whole f.automaton is_f.canonical.table)
      (All-cons (IsReading (letters_of f.automaton)) (whole_reading g.automaton) [] (subst (λ (sizes : List ℕ). IsReading (product sizes) (whole_reading g.automaton)) same (IsReading-whole g.automaton is_g.canonical.table)) (All-nil (IsReading (letters_of f.automaton))))

  over_g : (w : List ℕ) → IsWord (letters_of f.automaton) w → IsWord (letters_of g.automaton) w
  over_g w over = subst (λ (sizes : List ℕ). IsWord (product sizes) w) (sym same) over

  -- the tuple of a word is where the two automata are led
  pair_is : (w : List ℕ) → IsWord (letters_of f.automaton) w → tuple_after both w ≡ led f is_f w ∷ led g is_g w ∷ []
  pair_is w over =
      ap (λ (v : List ℕ). lead f.automaton (first_of f.automaton) v ∷ tuple_after (whole_reading g.automaton ∷ []) w) (word_read-all f.automaton w over)
      ∙ ap (λ (v : List ℕ). led f is_f w ∷ lead g.automaton (first_of g.automaton) v ∷ []) (word_read-all g.automaton w (over_g w over))

  alike_from_pairs : (w v : List ℕ) → IsWord (letters_of f.automaton) w → IsWord (letters_of f.automaton) v → LeadToOne both w v → BothAlike f g w v
  alike_from_pairs w v over there one =
      let pairs : led f is_f w ∷ led g is_g w ∷ [] ≡ led f is_f v ∷ led g is_g v ∷ [] = sym (pair_is w over) ∙ one ∙ pair_is v there in
      record {
        first = same_letters f is_f w v over there (ap (λ (k : List ℕ). get_or k 0 0) pairs);
        second = λ u inside. same_letters g is_g w v (over_g w over) (over_g v there) (ap (λ (k : List ℕ). get_or k 1 0) pairs) u inside;
      }

  pairs_from_alike : (w v : List ℕ) → IsWord (letters_of f.automaton) w → IsWord (letters_of f.automaton) v → BothAlike f g w v → LeadToOne both w v
  pairs_from_alike w v over there alike =
      pair_is w over
      ∙ ap (λ (q : ℕ). q ∷ led g is_g w ∷ []) (one_led f is_f w v over there alike.first)
      ∙ ap (λ (q : ℕ). led f is_f v ∷ q ∷ []) (one_led g is_g w v (over_g w over) (over_g v there) (λ u inside. alike.second u inside))
      ∙ sym (pair_is v there)

  pub width_pairs : (k : ℕ) → HasWidth (LeadToOne both) (letters_of f.automaton) k → HasWidth (BothAlike f g) (letters_of f.automaton) k
  width_pairs k = HasWidth-same (LeadToOne both) (BothAlike f g) (letters_of f.automaton) k alike_from_pairs pairs_from_alike

  pub apart_pairs : (k : ℕ) → HasApart (LeadToOne both) (letters_of f.automaton) k → HasApart (BothAlike f g) (letters_of f.automaton) k
  apart_pairs k = HasApart-same (LeadToOne both) (BothAlike f g) (letters_of f.automaton) k pairs_from_alike

  module _ (comparison : Comparison) (keys : List (List ℕ)) (d table : Automaton) (flags : List Bool) (sizes : d.sizes ≡ f.automaton.sizes) (tuples : AreTuples (letters_of f.automaton) both keys d)
      (flagged : (q : ℕ) → q < length keys → IsTrue (slice_index_or flags q false) ↔ KeyCompares comparison f g (key_at keys q)) (reflagged : IsReflagged flags d table) where
    abbrev Compare : List ℕ → Type 0
    Compare w = BothCompare comparison (letter_after f w) (letter_after g w)

    pub pair_accepts : (w : List ℕ) → IsWord (letters_of f.automaton) w → IsTrue (accepts_of table w) ↔ Compare w
    pair_accepts w over = subst (λ b. IsTrue b ↔ Compare w) (sym (accepts-run table w 0 ∙ ap (λ (o : Option ℕ). option_map_or (λ p. accepting_of table p) o false) (run-reflagged flags d table reflagged w 0)))
        (by (run_of d 0 w) (tuples.leads w over))
      where
        key : List ℕ
        key = tuple_after both w

        first : letter_after f w ≡ letter_of_state f (slice_index key 0)
        first = letter_after-lead f is_f w ∙ ap (λ (k : List ℕ). letter_of_state f (slice_index k 0)) (sym (pair_is w over))

        second : letter_after g w ≡ letter_of_state g (slice_index key 1)
        second = letter_after-lead g is_g w ∙ ap (λ (k : List ℕ). letter_of_state g (slice_index k 1)) (sym (pair_is w over))

        none_first : are_sinks both key ≡ true → letter_after f w ≡ None
        none_first sinks = first ∙ ap (letter_of_state f) (are_sinks-at both key 0 (omega arith) sinks) ∙ sink_letter f is_f

        by : (o : Option ℕ) → MatchOption o (are_sinks both key ≡ true) (λ q. (q < states_of d) × (key_at keys q ≡ key)) → IsTrue (option_map_or (λ p. accepting_of table p) o false) ↔ Compare w
        by None sinks = (
          (λ yes. absurd (true≢false (sym yes))),
          (λ both_are. absurd (none-some both_are.0 (sym (none_first sinks) ∙ both_are.2))),
        )
        by (Some q) found =
            let flag = reflagged.states.accepting q found.0 in
            let inside : q < length keys = omega (arith, found.0, tuples.count) in
            let fact : IsTrue (slice_index_or flags q false) ↔ KeyCompares comparison f g key = subst (λ (k : List ℕ). IsTrue (slice_index_or flags q false) ↔ KeyCompares comparison f g k) found.1 (flagged q inside) in (
              (λ yes. let has = fact.0 (sym flag ∙ yes) in (has.0, has.1, first ∙ has.2, second ∙ has.3, has.4)),
              (λ has. flag ∙ fact.1 (has.0, has.1, sym first ∙ has.2, sym second ∙ has.3, has.4)),
            )

    -- the minimal automaton of the same language accepts so too
    pub least_accepts : (e : Automaton) → SameLanguage table e → (w : List ℕ) → IsWord (letters_of f.automaton) w → IsTrue (accepts_of e w) ↔ Compare w
    least_accepts e same_words w over =
        subst (λ b. IsTrue b ↔ Compare w) (same_words w (subst (λ (ss : List ℕ). IsWord (product ss) w) (sym (reflagged.sizes ∙ sizes)) over)) (pair_accepts w over)
