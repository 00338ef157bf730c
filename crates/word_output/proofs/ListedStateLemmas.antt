-- The listed states that words lead to.
use Rattle.std.proofs.Common.{◌≡◌, ◌==◌, ℕ, ℤ, ◌<◌, ◌≤◌, ◌↔◌, Bool, true, not, ◌&&◌, List, [], ◌∷◌, length, Option, None, Some, unwrap_or, ◌⊎◌, inl, inr, refl, sym, ap, ◌∙◌, subst, arith, if◌then◌else◌}
use Rattle.std.specs.List.{AllZip}
use Rattle.std.specs.Option.{MatchOption, option_and_then}
use Rattle.std.specs.Prelude.{slice_index}
use Rattle.std.proofs.lemmas.Bool.{cases_lt}
use Rattle.std.proofs.lemmas.List.{get_or-map, get_or_past}
use Rattle.std.proofs.lemmas.List.Elements.{All-weaker}
use Rattle.std.proofs.lemmas.Option.{none-some}
use Rattle.digit_tuple.specs.Deterministic.{Automaton, IsTable, letters_of, states_of, transitions_of, run_of}
use Rattle.digit_tuple.specs.Explored.{key_at}
use Rattle.digit_tuple.specs.Letters.{product, IsWord}
use Rattle.digit_tuple.specs.Width.{HasApart, HasWidth}
use Rattle.digit_tuple.proofs.LetterLemmas.{digits_from_letter, code_of-below}
use Rattle.digit_tuple.proofs.WidthLemmas.{HasApart-same, HasWidth-same}
use Rattle.dfa_reading.specs.Branching.{IsLetterOfDigits}
use Rattle.dfa_reading.specs.Listed.{Listed, MovesAlong, output_of}
use Rattle.dfa_reading.specs.ListedTable.{IsTableOf}
use Rattle.dfa_reading.proofs.TableRows.{moves_along}
use Rattle.residual_classes.specs.Classes.{first_of}
use Rattle.minimise.proofs.LeadLemmas.{lead}
use Rattle.minimise.proofs.PlaceLemmas.{lead-run}
use Rattle.minimise.proofs.RunLemmas.{run_within}
use Rattle.product_op.specs.Readings.{Reading, AreStates, state_at}
use Rattle.product_op.specs.TrackReadings.{whole_reading}
use Rattle.product_op.specs.SinkKeys.{are_sinks}
use Rattle.product_op.specs.Tuples.{AreTuples, LeadToOne, tuple_after}
use Rattle.product_op.proofs.ReadingLemmas.{word_read-all}
use Rattle.product_op.proofs.SinkKeyLemmas.{are_sinks-at}
use Rattle.word_output.specs.LetterReadings.{HasListedLetter, LeadsListed, ListedAlike}
use Rattle.word_output.specs.ListedStates.{AreListedStates, listed_letters, listed_of}
use Rattle.word_output.specs.StateLetters.{letter_at, letter_led}

-- each word has tuples
pub tuples_of : (sizes w : List ℕ) → IsWord (product sizes) w → (tuples : List (List ℕ)) × AllZip (IsLetterOfDigits sizes) tuples w
tuples_of sizes [] over = ([], tt)
tuples_of sizes (a ∷ w) over =
    let first = digits_from_letter sizes a over.0 in
    let rest = tuples_of sizes w over.1 in
    (first.0 ∷ rest.0, (record { fit = first.1; letter_is = sym first.2 }, rest.1))

pub word_from_tuples : (sizes : List ℕ) (tuples : List (List ℕ)) (w : List ℕ) → AllZip (IsLetterOfDigits sizes) tuples w → IsWord (product sizes) w
word_from_tuples sizes [] [] zipped = tt
word_from_tuples sizes [] (a ∷ w) zipped = absurd zipped
word_from_tuples sizes (tuple ∷ tuples) [] zipped = absurd zipped
word_from_tuples sizes (tuple ∷ tuples) (a ∷ w) zipped =
    (subst (λ n. n < product sizes) (sym zipped.0.letter_is) (code_of-below sizes tuple zipped.0.fit), word_from_tuples sizes tuples w zipped.1)

module _ (sizes : List ℕ) (listed : Listed) (d : Automaton) (is : IsTableOf sizes listed d) (table : IsTable (letters_of d) d.states) where
  abbrev readings : List Reading
  readings = whole_reading d ∷ []

  own : (w : List ℕ) → IsWord (product sizes) w → IsWord (product d.sizes) w
  own w over = subst (λ ss. IsWord (product ss) w) (sym is.sizes_are) over

  initial_state : first_of d ≡ 0
  initial_state = ap (λ (b : Bool). if not b && (length (transitions_of d 0) == 0) then states_of d else 0) (is.accepting 0 table.initial)

  -- where a word leads, or one past the states
  abbrev pub end_of : List ℕ → ℕ
  end_of w = unwrap_or (run_of d 0 w) (states_of d)

  pub tuple_is : (w : List ℕ) → IsWord (product sizes) w → tuple_after readings w ≡ end_of w ∷ []
  tuple_is w over = ap (λ q. q ∷ [])
      (ap (λ v. lead d (first_of d) v) (word_read-all d w (own w over)) ∙ ap (λ q. lead d q w) initial_state ∙ lead-run d w 0)

  run_is : (tuples : List (List ℕ)) (w : List ℕ) (q : ℕ) → AllZip (IsLetterOfDigits sizes) tuples w → (run_of d 0 w ≡ Some q) ↔ MovesAlong sizes listed 0 tuples q
  run_is tuples w q zipped = moves_along sizes listed d is 0 q tuples w zipped

  -- a listed path ends where the word leads
  moves_end : (tuples : List (List ℕ)) (w : List ℕ) (q : ℕ) → AllZip (IsLetterOfDigits sizes) tuples w → MovesAlong sizes listed 0 tuples q ↔ ((q ≡ end_of w) × (q < length listed.outputs))
  moves_end tuples w q zipped = (over, back)
    where
      over : MovesAlong sizes listed 0 tuples q → (q ≡ end_of w) × (q < length listed.outputs)
      over moves =
          let leads : run_of d 0 w ≡ Some q = (run_is tuples w q zipped).1 moves in
          (sym (ap (λ (o : Option ℕ). unwrap_or o (states_of d)) leads), omega (arith, run_within d w 0 q table table.initial leads, is.states))

      back : (q ≡ end_of w) × (q < length listed.outputs) → MovesAlong sizes listed 0 tuples q
      back ends = (run_is tuples w q zipped).0 (by (run_of d 0 w) ends.0)
        where
          by : (o : Option ℕ) → q ≡ unwrap_or o (states_of d) → o ≡ Some q
          by None same = absurd (omega (arith, same, ends.1, is.states))
          by (Some t) same = ap Some (sym same)

  -- words are alike if and only if they lead to one state
  ended : (w : List ℕ) (q : ℕ) → IsWord (product sizes) w → LeadsListed sizes listed w q ↔ ((q ≡ end_of w) × (q < length listed.outputs))
  ended w q over = (
    (λ leads. (moves_end leads.tuples w q leads.letters).0 leads.path),
    (λ ends. let own_tuples = tuples_of sizes w over in record { tuples = own_tuples.0; letters = own_tuples.1; path = (moves_end own_tuples.0 w q own_tuples.1).1 ends }),
  )

  one_from_alike : (w v : List ℕ) → IsWord (product sizes) w → IsWord (product sizes) v → ListedAlike sizes listed w v → LeadToOne readings w v
  one_from_alike w v over there alike = tuple_is w over ∙ ap (λ q. q ∷ []) (by (run_of d 0 w) (run_of d 0 v) refl refl) ∙ sym (tuple_is v there)
    where
      at : (u x : List ℕ) → IsWord (product sizes) u → IsWord (product sizes) x → ((q : ℕ) → LeadsListed sizes listed u q → LeadsListed sizes listed x q) → (q : ℕ) → run_of d 0 u ≡ Some q → q ≡ end_of x
      at u x first second moves q leads = ((ended x q second).0 (moves q ((ended u q first).1 (sym (ap (λ (o : Option ℕ). unwrap_or o (states_of d)) leads), omega (arith, run_within d u 0 q table table.initial leads, is.states))))).0

      by : (o r : Option ℕ) → run_of d 0 w ≡ o → run_of d 0 v ≡ r → end_of w ≡ end_of v
      by None None none nowhere = ap (λ (o : Option ℕ). unwrap_or o (states_of d)) (none ∙ sym nowhere)
      by (Some q) r leads other = ap (λ (o : Option ℕ). unwrap_or o (states_of d)) leads ∙ at w v over there (λ p. (alike p).0) q leads
      by None (Some q) none leads = sym (ap (λ (o : Option ℕ). unwrap_or o (states_of d)) leads ∙ at v w there over (λ p. (alike p).1) q leads)

  alike_from_one : (w v : List ℕ) → IsWord (product sizes) w → IsWord (product sizes) v → LeadToOne readings w v → ListedAlike sizes listed w v
  alike_from_one w v over there same q =
      let ends : end_of w ≡ end_of v = ap (λ key. state_at key 0) (sym (tuple_is w over) ∙ same ∙ tuple_is v there) in (
        (λ leads. (ended v q there).1 (((ended w q over).0 leads).0 ∙ ends, ((ended w q over).0 leads).1)),
        (λ leads. (ended w q over).1 (((ended v q there).0 leads).0 ∙ sym ends, ((ended v q there).0 leads).1)),
      )

  pub width-listed : (letters k : ℕ) → letters ≡ product sizes → HasWidth (LeadToOne readings) letters k → HasWidth (ListedAlike sizes listed) (product sizes) k
  width-listed letters k same width = HasWidth-same (LeadToOne readings) (ListedAlike sizes listed) (product sizes) k alike_from_one one_from_alike (subst (λ n. HasWidth (LeadToOne readings) n k) same width)

  pub apart-listed : (letters k : ℕ) → letters ≡ product sizes → HasApart (LeadToOne readings) letters k → HasApart (ListedAlike sizes listed) (product sizes) k
  apart-listed letters k same apart = HasApart-same (LeadToOne readings) (ListedAlike sizes listed) (product sizes) k one_from_alike (subst (λ n. HasApart (LeadToOne readings) n k) same apart)

  pub AreListedStates-explored : (letters : ℕ) (keys : List (List ℕ)) (e : Automaton) → letters ≡ product sizes → e.sizes ≡ sizes → AreTuples letters readings keys e → AreListedStates sizes listed keys e
  AreListedStates-explored letters keys e same same_sizes tuples = record {
    sizes_are = same_sizes;
    count = tuples.count;
    long = All-weaker (AreStates readings) (λ key. 0 < length key) (λ key states. omega (arith, states.count)) keys tuples.states;
    leads = λ own_tuples w zipped. leads own_tuples w zipped (run_of e 0 w) (tuples.leads w (subst (λ n. IsWord n w) (sym same) (word_from_tuples sizes own_tuples w zipped)));
  }
    where
      leads : (own_tuples : List (List ℕ)) (w : List ℕ) → AllZip (IsLetterOfDigits sizes) own_tuples w → (o : Option ℕ)
          → MatchOption o (are_sinks readings (tuple_after readings w) ≡ true) (λ t. (t < states_of e) × (key_at keys t ≡ tuple_after readings w))
          → MatchOption o ((q : ℕ) → ¬ MovesAlong sizes listed 0 own_tuples q) (λ t. (t < states_of e) × ((q : ℕ) → MovesAlong sizes listed 0 own_tuples q ↔ ((q ≡ listed_of keys t) × (q < length listed.outputs))))
      leads own_tuples w zipped None sinks = λ q moves.
          let ends = (moves_end own_tuples w q zipped).0 moves in
          let sink : end_of w ≡ states_of d = ap (λ key. state_at key 0) (sym (tuple_is w (word_from_tuples sizes own_tuples w zipped))) ∙ are_sinks-at readings (tuple_after readings w) 0 (omega arith) sinks in
          omega (arith, ends.0, ends.1, sink, is.states)
      leads own_tuples w zipped (Some t) some =
          let head : end_of w ≡ listed_of keys t = ap (λ key. state_at key 0) (sym (tuple_is w (word_from_tuples sizes own_tuples w zipped)) ∙ sym some.1) in
          (some.0, λ q. subst (λ n. MovesAlong sizes listed 0 own_tuples q ↔ ((q ≡ n) × (q < length listed.outputs))) head (moves_end own_tuples w q zipped))

-- the letters of these states are the listed ones
module _ (sizes : List ℕ) (listed : Listed) (keys : List (List ℕ)) (d : Automaton) (states : AreListedStates sizes listed keys d) where
  letter_there : (t : ℕ) → t < states_of d → letter_at (listed_letters listed.outputs keys) t ≡ output_of listed (listed_of keys t)
  letter_there t inside = get_or-map (λ key. output_of listed (slice_index key 0)) keys t [] None (omega (arith, inside, states.count))

  pub letter_led-listed : (tuples : List (List ℕ)) (w : List ℕ) (letter : ℤ) → AllZip (IsLetterOfDigits sizes) tuples w
      → (letter_led d (listed_letters listed.outputs keys) w ≡ Some letter) ↔ HasListedLetter sizes listed tuples letter
  letter_led-listed tuples w letter zipped = by (run_of d 0 w) (states.leads tuples w zipped)
    where
      by : (o : Option ℕ) → MatchOption o ((q : ℕ) → ¬ MovesAlong sizes listed 0 tuples q) (λ t. (t < states_of d) × ((q : ℕ) → MovesAlong sizes listed 0 tuples q ↔ ((q ≡ listed_of keys t) × (q < length listed.outputs))))
          → (option_and_then (λ q. letter_at (listed_letters listed.outputs keys) q) o ≡ Some letter) ↔ HasListedLetter sizes listed tuples letter
      by None none = ((λ same. absurd (none-some letter same)), (λ has. absurd (none has.0 has.1)))
      by (Some t) some = (over (cases_lt (listed_of keys t) (length listed.outputs)), back)
        where
          over : (listed_of keys t < length listed.outputs) ⊎ (length listed.outputs ≤ listed_of keys t) → letter_at (listed_letters listed.outputs keys) t ≡ Some letter → HasListedLetter sizes listed tuples letter
          over (inl less) same =
              (listed_of keys t, (some.1 (listed_of keys t)).1 (refl, less), sym (letter_there t some.0) ∙ same)
          over (inr past) same = absurd (none-some letter (sym (get_or_past listed.outputs (listed_of keys t) None past) ∙ sym (letter_there t some.0) ∙ same))

          back : HasListedLetter sizes listed tuples letter → letter_at (listed_letters listed.outputs keys) t ≡ Some letter
          back has =
              let ends = (some.1 has.0).0 has.1 in
              letter_there t some.0 ∙ ap (output_of listed) (sym ends.0) ∙ has.2
