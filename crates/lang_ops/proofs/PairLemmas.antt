-- Pairs of states of two automata over the same tracks: where words lead, and which pairs accept.
use Rattle.std.proofs.Common.{◌≡◌, ◌<◌, ℕ, Bool, false, List, [], ◌∷◌, ◌++◌, length, get_or, slice_index, slice_index_or, Option, None, Some, Result, Err, true, refl, sym, ap, ◌∙◌, subst, arith}
use Rattle.std.specs.Prelude.{IsErrAnd}
use Rattle.std.specs.Option.{MatchOption, option_and_then, option_map_or}
use Rattle.std.proofs.lemmas.List.Elements.{All-cons, All-nil}
use Rattle.std.proofs.lemmas.Result.{err_from_is_err_and}
use Rattle.digit_tuple.specs.Deterministic.{Automaton, accepting_of, accepts_of, letters_of, run_of, states_of, step_of, target_by}
use Rattle.digit_tuple.specs.Explored.{key_at}
use Rattle.digit_tuple.specs.Letters.{IsWord, product}
use Rattle.digit_tuple.specs.Reflagged.{IsReflagged}
use Rattle.digit_tuple.specs.Width.{HasApart, HasWidth}
use Rattle.digit_tuple.specs.declared.transitions.Transition.{Transition}
use Rattle.digit_tuple.proofs.WidthLemmas.{HasApart-same, HasWidth-same}
use Rattle.digit_tuple.proofs.WordLemmas.{IsWord-append}
use Rattle.determinise.proofs.ReversalLemmas.{accepts_from-run}
use Rattle.residual_classes.specs.Classes.{first_of}
use Rattle.residual_classes.proofs.SinkLemmas.{not_accepting_past}
use Rattle.minimise.specs.Canonical.{IsCanonical}
use Rattle.minimise.specs.Residuals.{SameLanguage}
use Rattle.minimise.proofs.LeadLemmas.{SameAfter-lead, lead, one_lead}
use Rattle.product_op.specs.Connectives.{connective}
use Rattle.product_op.specs.Readings.{AreReadings, IsReading, Reading, reading_in, readings_in}
use Rattle.product_op.specs.SinkKeys.{are_sinks}
use Rattle.product_op.specs.TrackReadings.{whole_reading}
use Rattle.product_op.specs.Tuples.{AreTuples, LeadToOne, tuple_after}
use Rattle.product_op.specs.declared.op.Op.{Op}
use Rattle.product_op.specs.declared.reader.Reader.{Reader}
use Rattle.product_op.proofs.ReadingLemmas.{IsReading-whole, word_read-all}
use Rattle.product_op.proofs.SinkKeyLemmas.{are_sinks-at}
use Rattle.pad_rename.proofs.SinkLeads.{accepts_of-lead}
use Rattle.automaton_steps.proofs.StepSizes.{AreKept}
use Rattle.lang_ops.specs.PairKeys.{key_holds}
use Rattle.lang_ops.specs.Pairs.{PairAlike}

-- two readers of whole automata
pub two_readings : (readers : List Reader) (r s : Reader) (d e : Automaton) → readers ≡ r ∷ s ∷ [] → reading_in r ≡ whole_reading d → reading_in s ≡ whole_reading e
    → readings_in readers ≡ whole_reading d ∷ whole_reading e ∷ []
two_readings readers r s d e same one two = ap readings_in same ∙ (λ i. one i ∷ two i ∷ [])

-- a fault that was handed on
pub handed_on : {X E : Type 0} (D : Result X E → Type 0) (r : Result X E) (fault : E) → IsErrAnd r (λ e. e ≡ fault) → D (Err fault) → D r
handed_on D r fault given does = let out = err_from_is_err_and r given in subst D (sym (out.1 ∙ ap Err out.2)) does

-- a fault is the same whatever there would be without it
pub same_fault : {X Y E : Type 0} (fault other : E) → ◌≡◌ {A = Result X E} (Err fault) (Err other) → ◌≡◌ {A = Result Y E} (Err fault) (Err other)
same_fault fault other same = let is : fault ≡ other = cc in ap Err is

-- other flags lead nowhere else
run-reflagged : (flags : List Bool) (old new : Automaton) → IsReflagged flags old new → (w : List ℕ) (q : ℕ) → run_of new q w ≡ run_of old q w
run-reflagged flags old new is [] q = refl
run-reflagged flags old new is (a ∷ w) q =
    ap (λ (es : List Transition). option_and_then (λ p. run_of new p w) (target_by es a)) (is.states.transitions q) ∙ by (step_of old q a) (run-reflagged flags old new is w)
  where
    by : (o : Option ℕ) → ((p : ℕ) → run_of new p w ≡ run_of old p w) → option_and_then (λ p. run_of new p w) o ≡ option_and_then (λ p. run_of old p w) o
    by None rest = refl
    by (Some p) rest = rest p

module _ (a b : Automaton) (one : IsCanonical a) (two : IsCanonical b) (same : b.sizes ≡ a.sizes) where
  abbrev pub both : List Reading
  both = whole_reading a ∷ whole_reading b ∷ []

  pub reads_both : AreReadings (letters_of a) both
  reads_both =
      All-cons (IsReading (letters_of a)) (whole_reading a) (whole_reading b ∷ []) (IsReading-whole a one.table)
      (All-cons (IsReading (letters_of a)) (whole_reading b) [] (subst (λ (sizes : List ℕ). IsReading (product sizes) (whole_reading b)) same (IsReading-whole b two.table)) (All-nil (IsReading (letters_of a))))

  over_b : (w : List ℕ) → IsWord (letters_of a) w → IsWord (letters_of b) w
  over_b w over = subst (λ (sizes : List ℕ). IsWord (product sizes) w) (sym same) over

  -- the tuple of a word is where the two automata are led
  pair_is : (w : List ℕ) → IsWord (letters_of a) w → tuple_after both w ≡ lead a (first_of a) w ∷ lead b (first_of b) w ∷ []
  pair_is w over =
      ap (λ (v : List ℕ). lead a (first_of a) v ∷ tuple_after (whole_reading b ∷ []) w) (word_read-all a w over)
      ∙ ap (λ (v : List ℕ). lead a (first_of a) w ∷ lead b (first_of b) v ∷ []) (word_read-all b w (over_b w over))

  alike_from_pairs : (w v : List ℕ) → IsWord (letters_of a) w → IsWord (letters_of a) v → LeadToOne both w v → PairAlike a b w v
  alike_from_pairs w v over there alike =
      let pairs : lead a (first_of a) w ∷ lead b (first_of b) w ∷ [] ≡ lead a (first_of a) v ∷ lead b (first_of b) v ∷ [] = sym (pair_is w over) ∙ alike ∙ pair_is v there in
      record {
        first = SameAfter-lead a w v (ap (λ (k : List ℕ). get_or k 0 0) pairs);
        second = λ u more. SameAfter-lead b w v (ap (λ (k : List ℕ). get_or k 1 0) pairs) u more;
      }

  pairs_from_alike : (w v : List ℕ) → IsWord (letters_of a) w → IsWord (letters_of a) v → PairAlike a b w v → LeadToOne both w v
  pairs_from_alike w v over there alike =
      pair_is w over
      ∙ ap (λ (q : ℕ). q ∷ lead b (first_of b) w ∷ []) (one_lead a one w v over there alike.first)
      ∙ ap (λ (q : ℕ). lead a (first_of a) v ∷ q ∷ []) (one_lead b two w v (over_b w over) (over_b v there) alike.second)
      ∙ sym (pair_is v there)

  pub pair_width : (k : ℕ) → HasWidth (LeadToOne both) (letters_of a) k → HasWidth (PairAlike a b) (letters_of a) k
  pair_width k = HasWidth-same (LeadToOne both) (PairAlike a b) (letters_of a) k alike_from_pairs pairs_from_alike

  pub pair_apart : (k : ℕ) → HasApart (LeadToOne both) (letters_of a) k → HasApart (PairAlike a b) (letters_of a) k
  pair_apart k = HasApart-same (LeadToOne both) (PairAlike a b) (letters_of a) k pairs_from_alike

  module _ (op : Op) (none : connective op false false ≡ false) (keys : List (List ℕ)) (d table : Automaton) (flags : List Bool) (sizes : d.sizes ≡ a.sizes) (tuples : AreTuples (letters_of a) both keys d)
      (flagged : (q : ℕ) → q < length keys → slice_index_or flags q false ≡ key_holds op a b (key_at keys q)) (reflagged : IsReflagged flags d table) where
    pair_accepts : (w : List ℕ) → IsWord (letters_of a) w → accepts_of table w ≡ connective op (accepts_of a w) (accepts_of b w)
    pair_accepts w over =
        accepts_from-run table 0 w ∙ ap (λ (o : Option ℕ). option_map_or (accepting_of table) o false) (run-reflagged flags d table reflagged w 0)
        ∙ by (run_of d 0 w) (tuples.leads w over)
      where
        key : List ℕ
        key = tuple_after both w

        first : accepts_of a w ≡ accepting_of a (slice_index key 0)
        first = accepts_of-lead a w ∙ ap (λ (k : List ℕ). accepting_of a (slice_index k 0)) (sym (pair_is w over))

        second : accepts_of b w ≡ accepting_of b (slice_index key 1)
        second = accepts_of-lead b w ∙ ap (λ (k : List ℕ). accepting_of b (slice_index k 1)) (sym (pair_is w over))

        holds : connective op (accepts_of a w) (accepts_of b w) ≡ key_holds op a b key
        holds = ap (λ x. connective op x (accepts_of b w)) first ∙ ap (λ x. connective op (accepting_of a (slice_index key 0)) x) second

        by : (o : Option ℕ) → MatchOption o (are_sinks both key ≡ true) (λ q. (q < states_of d) × (key_at keys q ≡ key)) → option_map_or (accepting_of table) o false ≡ connective op (accepts_of a w) (accepts_of b w)
        by None sinks =
            let refused : accepting_of a (slice_index key 0) ≡ false = ap (accepting_of a) (are_sinks-at both key 0 (omega arith) sinks) ∙ not_accepting_past a (states_of a) (omega arith) in
            let other : accepting_of b (slice_index key 1) ≡ false = ap (accepting_of b) (are_sinks-at both key 1 (omega arith) sinks) ∙ not_accepting_past b (states_of b) (omega arith) in
            sym (holds ∙ ap (λ x. connective op x (accepting_of b (slice_index key 1))) refused ∙ ap (λ x. connective op false x) other ∙ none)
        by (Some q) found =
            reflagged.states.accepting q found.0 ∙ flagged q (omega (arith, found.0, tuples.count)) ∙ ap (key_holds op a b) found.1 ∙ sym holds

    -- the minimal automaton of the same language accepts so too
    pub combined_accepts : (e : Automaton) → SameLanguage table e → (w : List ℕ) → IsWord (letters_of a) w → accepts_of e w ≡ connective op (accepts_of a w) (accepts_of b w)
    combined_accepts e same_words w over =
        sym (same_words w (subst (λ (ss : List ℕ). IsWord (product ss) w) (sym (reflagged.sizes ∙ sizes)) over)) ∙ pair_accepts w over

-- words that are alike are combined alike before each word
pub combined_kept : (op : Op) (a b : Automaton) → b.sizes ≡ a.sizes → (made : Automaton) → ((w : List ℕ) → IsWord (letters_of a) w → accepts_of made w ≡ connective op (accepts_of a w) (accepts_of b w))
    → AreKept (PairAlike a b) (letters_of a) made
combined_kept op a b same made language w v u over there more alike =
    language (w ++ u) (IsWord-append (letters_of a) w u over more)
    ∙ ap (λ x. connective op x (accepts_of b (w ++ u))) (alike.first u more)
    ∙ ap (λ x. connective op (accepts_of a (v ++ u)) x) (alike.second u (subst (λ (sizes : List ℕ). IsWord (product sizes) u) (sym same) more))
    ∙ sym (language (v ++ u) (IsWord-append (letters_of a) v u there more))
