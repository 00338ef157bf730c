-- Letters of words without their leading zeros.
use Rattle.std.proofs.Common.{◌≡◌, ◌==◌, ◌&&◌, ℕ, zero, suc, ◌<◌, Bool, true, false, not, cond, List, [], ◌∷◌, ◌++◌, filter, drop, length, get_or, slice_index, Option, None, Some, unwrap_or, ◌⊎◌, inl, inr, refl, sym, ap, ◌∙◌, arith, if◌then◌else◌}
use Rattle.std.specs.List.{All, AllPairs}
use Rattle.std.specs.Option.{option_and_then, option_map_or}
use Rattle.std.proofs.lemmas.Bool.{eqb-true, ne_eqb}
use Rattle.std.proofs.lemmas.Bool.Decides.{Decides-eqb}
use Rattle.std.proofs.lemmas.List.{get_or-map, length-map, nil_from_length}
use Rattle.std.proofs.lemmas.List.Elements.{All-cons, All-filter, All-map, filter_passes}
use Rattle.std.proofs.lemmas.List.Kept.{AllPairs-cons, AllPairs-filter}
use Rattle.std.proofs.lemmas.Option.{none-some}
use Rattle.digit_tuple.specs.Deterministic as deterministic
use Rattle.digit_tuple.specs.Deterministic.{Automaton, IsTable, accepting_of, transitions_of, letters_of, run_of, states_of, step_of, target_by}
use Rattle.digit_tuple.specs.Explored.{IsExplored}
use Rattle.digit_tuple.specs.Keys.{AreKeyTransitions, IsByEarlier, KeyTransition, LeadAlike, key_by, key_run}
use Rattle.digit_tuple.specs.Letters.{IsWord}
use Rattle.digit_tuple.specs.Paddings.{without_zeros}
use Rattle.digit_tuple.specs.declared.transitions.Transition.{Transition}
use Rattle.digit_tuple.proofs.PaddingLemmas.{IsWord-without_zeros}
use Rattle.residual_classes.specs.Classes.{class_of, first_of}
use Rattle.minimise.proofs.LeadLemmas.{lead}
use Rattle.minimise.proofs.PlaceLemmas.{lead-run}
use Rattle.minimise.proofs.RunLemmas.{run_within}
use Rattle.residual_classes.proofs.SinkLemmas.{no_transitions_past, row_of}
use Rattle.pad_rename.proofs.SinkLeads.{first_cases}
use Rattle.word_output.specs.LetterFunctions.{IsLetterFunction, LetterFunctionValue, letter_after, letter_in}
use Rattle.word_output.specs.LetterPaddings.{MsdLettersAlike}
use Rattle.word_output.specs.PastZeros.{transition_to_target, transitions_from, is_by_other, key_of, key_to, past_after, past_transitions}
use Rattle.word_output.specs.StateLetters.{head_letters, letter_led, letter_of_state}
use Rattle.word_output.proofs.LetterLeads.{led, one_led, same_letters}
use Rattle.word_output.proofs.LsdLetterLemmas.{letter_led-explored}

-- a list of one entry or more
pub cons_from_length : (xs : List ℕ) → 0 < length xs → xs ≡ get_or xs 0 0 ∷ drop 1 xs
cons_from_length [] some = absurd (omega (arith, some))
cons_from_length (x ∷ xs) some = refl

positive : (e : Transition) → is_by_other e ≡ true → 0 < e.letter
positive e is = by e.letter refl
  where
    by : (a : ℕ) → e.letter ≡ a → 0 < e.letter
    by zero same = let no : false ≡ true = sym (ap (λ (x : ℕ). not (x == 0)) same) ∙ is in cc
    by (suc a) same = omega (arith, same)

transitions-ascending : (es : List Transition) → AllPairs deterministic.IsByEarlier es → AllPairs IsByEarlier (transitions_from es)
transitions-ascending es up i j z before within =
    let e : Transition = record { letter = 0; target = 0 } in
    let inside : j < length es = omega (arith, within, length-map es transition_to_target) in
    let one : get_or (transitions_from es) i z ≡ transition_to_target (get_or es i e) = get_or-map transition_to_target es i e z (omega (arith, before, inside)) in
    let two : get_or (transitions_from es) j z ≡ transition_to_target (get_or es j e) = get_or-map transition_to_target es j e z inside in
    omega (arith, ap (λ (k : KeyTransition). k.letter) one, ap (λ (k : KeyTransition). k.letter) two, up i j e before inside)

key_by-transitions : (es : List Transition) (a : ℕ) → key_by (transitions_from es) a ≡ key_to (target_by es a)
key_by-transitions [] a = refl
key_by-transitions (e ∷ es) a = ap (λ o. if e.letter == a then Some (key_of e.target) else o) (key_by-transitions es a) ∙ by (e.letter == a)
  where
    by : (b : Bool) → (if b then Some (key_of e.target) else key_to (target_by es a)) ≡ key_to (if b then Some e.target else target_by es a)
    by true = refl
    by false = refl

-- other letters than zero lead where they did
target_by-others : (es : List Transition) (a : ℕ) → target_by (filter is_by_other es) (suc a) ≡ target_by es (suc a)
target_by-others [] a = refl
target_by-others (e ∷ es) a = by (e.letter == 0) refl (target_by-others es a)
  where
    by : (b : Bool) → (e.letter == 0) ≡ b → target_by (filter is_by_other es) (suc a) ≡ target_by es (suc a)
        → target_by (cond (not b) (e ∷ filter is_by_other es) (filter is_by_other es)) (suc a) ≡ target_by (e ∷ es) (suc a)
    by true is rest =
        let zero_is : e.letter ≡ 0 = eqb-true e.letter 0 is in
        rest ∙ sym (ap (λ (b : Bool). if b then Some e.target else target_by es (suc a)) (ne_eqb e.letter (suc a) (λ other. absurd (omega (arith, zero_is, other)))))
    by false is rest = ap (λ (o : Option ℕ). if e.letter == suc a then Some e.target else o) rest

module _ (d : Automaton) (table : IsTable (letters_of d) d.states) where
  small_transitions : (q letters : ℕ) → letters ≡ letters_of d → All (λ e. e.letter < letters) (transitions_of d q)
  small_transitions q letters same k e within = let low = ((row_of d table q).in_range k e within).0 in omega (arith, low, same)

  -- the transitions from a key
  pub AreKeyTransitions-past : (letters : ℕ) (key : List ℕ) → letters ≡ letters_of d → AreKeyTransitions letters (past_after d key) (past_transitions d letters key)
  AreKeyTransitions-past letters (q ∷ key) same = record {
    in_range = All-map (λ k. k.letter < letters) transition_to_target (transitions_of d q) (small_transitions q letters same);
    ascending = transitions-ascending (transitions_of d q) (row_of d table q).ascending;
    lead = λ a small. key_by-transitions (transitions_of d q) a;
  }
  AreKeyTransitions-past zero [] same = record {
    in_range = All-map (λ k. k.letter < 0) transition_to_target others (All-filter is_by_other (λ e. e.letter < 0) (transitions_of d 0) (small_transitions 0 zero same));
    ascending = transitions-ascending others (AllPairs-filter deterministic.IsByEarlier is_by_other (transitions_of d 0) (row_of d table 0).ascending);
    lead = λ a small. absurd (omega (arith, small));
  }
    where
      others : List Transition
      others = filter is_by_other (transitions_of d 0)
  AreKeyTransitions-past (suc letters) [] same = record {
    in_range = All-cons (λ k. k.letter < suc letters) zero_transition (transitions_from others) (omega arith)
        (All-map (λ k. k.letter < suc letters) transition_to_target others (All-filter is_by_other (λ e. e.letter < suc letters) (transitions_of d 0) (small_transitions 0 (suc letters) same)));
    ascending = AllPairs-cons IsByEarlier zero_transition (transitions_from others)
        (All-map (λ k. 0 < k.letter) transition_to_target others (λ k z within. positive (get_or others k z) (filter_passes is_by_other (transitions_of d 0) k z within)))
        (transitions-ascending others (AllPairs-filter deterministic.IsByEarlier is_by_other (transitions_of d 0) (row_of d table 0).ascending));
    lead = lead_on;
  }
    where
      others : List Transition
      others = filter is_by_other (transitions_of d 0)

      zero_transition : KeyTransition
      zero_transition = record { letter = 0; key = [] }

      lead_on : (a : ℕ) → a < suc letters → key_by (zero_transition ∷ transitions_from others) a ≡ past_after d [] a
      lead_on zero small = refl
      lead_on (suc a) small =
          ap (λ (b : Bool). if b then Some [] else key_by (transitions_from others) (suc a)) (ne_eqb 0 (suc a) (λ other. absurd (omega (arith, other))))
          ∙ key_by-transitions others (suc a) ∙ ap key_to (target_by-others (transitions_of d 0) a)

-- the key of a word without leading zeros
abbrev pub past_key : Automaton → List ℕ → Option (List ℕ)
past_key d [] = Some []
past_key d (a ∷ u) = key_to (run_of d 0 (a ∷ u))

module _ (d : Automaton) where
  run_state : (w : List ℕ) (q : ℕ) → key_run (past_after d) (key_of q) w ≡ key_to (run_of d q w)
  run_state [] q = refl
  run_state (a ∷ w) q = by (step_of d q a) (run_state w)
    where
      by : (o : Option ℕ) → ((p : ℕ) → key_run (past_after d) (key_of p) w ≡ key_to (run_of d p w)) → option_and_then (λ key. key_run (past_after d) key w) (key_to o) ≡ key_to (option_and_then (λ p. run_of d p w) o)
      by None rest = refl
      by (Some p) rest = rest p

  pub run_past : (w : List ℕ) → key_run (past_after d) [] w ≡ past_key d (without_zeros w)
  run_past [] = refl
  run_past (zero ∷ w) = run_past w
  run_past (suc a ∷ w) = by (step_of d 0 (suc a)) (run_state w)
    where
      by : (o : Option ℕ) → ((p : ℕ) → key_run (past_after d) (key_of p) w ≡ key_to (run_of d p w)) → option_and_then (λ key. key_run (past_after d) key w) (key_to o) ≡ key_to (option_and_then (λ p. run_of d p w) o)
      by None rest = refl
      by (Some p) rest = rest p

  one_run : (o r : Option ℕ) → key_to o ≡ key_to r → o ≡ r
  one_run None None same = refl
  one_run None (Some p) same = absurd (none-some (key_of p) same)
  one_run (Some q) None same = absurd (none-some (key_of q) (sym same))
  one_run (Some q) (Some p) same = let is : q ≡ p = cc in ap Some is

  not_zeros : (o : Option ℕ) → Some [] ≡ key_to o → ⊥
  not_zeros None same = none-some [] (sym same)
  not_zeros (Some q) same = cc

module _ (f : LetterFunctionValue) (is : IsLetterFunction f) where
  abbrev d : Automaton
  d = f.automaton

  -- words of a letter or more lead from the initial state where they lead from state 0
  led-run : (a : ℕ) (u : List ℕ) → led f is (a ∷ u) ≡ unwrap_or (run_of d 0 (a ∷ u)) (states_of d)
  led-run a u = by (first_of d) refl (first_cases d)
    where
      bare : first_of d ≡ states_of d → transitions_of d 0 ≡ []
      bare sink = at (accepting_of d 0) (length (transitions_of d 0) == 0) refl sink
        where
          at : (b z : Bool) → (length (transitions_of d 0) == 0) ≡ z → (if not b && z then states_of d else 0) ≡ states_of d → transitions_of d 0 ≡ []
          at true z length_is same = absurd (omega (arith, same, is.canonical.table.initial))
          at false true length_is same = nil_from_length (transitions_of d 0) ((Decides-eqb (length (transitions_of d 0)) 0).0 length_is)
          at false false length_is same = absurd (omega (arith, same, is.canonical.table.initial))

      by : (q : ℕ) → first_of d ≡ q → (first_of d ≡ states_of d) ⊎ (first_of d ≡ 0) → lead d (first_of d) (a ∷ u) ≡ unwrap_or (run_of d 0 (a ∷ u)) (states_of d)
      by q same (inr zero_is) = ap (λ p. lead d p (a ∷ u)) zero_is ∙ lead-run d (a ∷ u) 0
      by q same (inl sink) = lead-run d (a ∷ u) (first_of d) ∙ ap (λ p. unwrap_or (run_of d p (a ∷ u)) (states_of d)) sink
          ∙ ap (λ (es : List Transition). unwrap_or (option_and_then (λ p. run_of d p u) (target_by es a)) (states_of d)) (no_transitions_past d (states_of d) (omega arith) ∙ sym (bare sink))

  pub alike_from_past : (w v : List ℕ) → IsWord (letters_of d) w → IsWord (letters_of d) v → LeadAlike (past_after d) [] w v → MsdLettersAlike f w v
  alike_from_past w v over there same = by (without_zeros w) (without_zeros v) refl refl (sym (run_past d w) ∙ same ∙ run_past d v)
    where
      by : (x y : List ℕ) → without_zeros w ≡ x → without_zeros v ≡ y → past_key d x ≡ past_key d y → MsdLettersAlike f w v
      by [] [] first second one = record { zeros = ((λ z. second), (λ z. first)); stripped = λ u inside. ap (λ x. letter_after f (x ++ u)) (first ∙ sym second) }
      by [] (b ∷ y) first second one = absurd (not_zeros d (run_of d 0 (b ∷ y)) one)
      by (a ∷ x) [] first second one = absurd (not_zeros d (run_of d 0 (a ∷ x)) (sym one))
      by (a ∷ x) (b ∷ y) first second one = record {
        zeros = ((λ none. absurd (nonempty a x (sym first ∙ none))), (λ none. absurd (nonempty b y (sym second ∙ none))));
        stripped = same_letters f is (without_zeros w) (without_zeros v) (IsWord-without_zeros (letters_of d) w over) (IsWord-without_zeros (letters_of d) v there)
            (ap (led f is) first ∙ led-run a x ∙ ap (λ (o : Option ℕ). unwrap_or o (states_of d)) (one_run d (run_of d 0 (a ∷ x)) (run_of d 0 (b ∷ y)) one) ∙ sym (led-run b y) ∙ sym (ap (led f is) second));
      }
        where
          nonempty : (c : ℕ) (z : List ℕ) → c ∷ z ≡ [] → ⊥
          nonempty c z equal = cc

  -- words that lead to one state, or both to none, lead alike
  same_runs : (x y : List ℕ) (o r : Option ℕ) → run_of d 0 x ≡ o → run_of d 0 y ≡ r → unwrap_or o (states_of d) ≡ unwrap_or r (states_of d) → o ≡ r
  same_runs x y None None first second same = refl
  same_runs x y None (Some q) first second same = absurd (omega (arith, same, run_within d y 0 q is.canonical.table is.canonical.table.initial second))
  same_runs x y (Some q) None first second same = absurd (omega (arith, same, run_within d x 0 q is.canonical.table is.canonical.table.initial first))
  same_runs x y (Some q) (Some p) first second same = ap Some same

  pub past_from_alike : (w v : List ℕ) → IsWord (letters_of d) w → IsWord (letters_of d) v → MsdLettersAlike f w v → LeadAlike (past_after d) [] w v
  past_from_alike w v over there alike = run_past d w ∙ by (without_zeros w) (without_zeros v) refl refl ∙ sym (run_past d v)
    where
      nonempty : (c : ℕ) (z : List ℕ) → c ∷ z ≡ [] → ⊥
      nonempty c z equal = cc

      by : (x y : List ℕ) → without_zeros w ≡ x → without_zeros v ≡ y → past_key d (without_zeros w) ≡ past_key d (without_zeros v)
      by [] [] first second = ap (past_key d) (first ∙ sym second)
      by [] (b ∷ y) first second = absurd (nonempty b y (sym second ∙ alike.zeros.0 first))
      by (a ∷ x) [] first second = absurd (nonempty a x (sym first ∙ alike.zeros.1 second))
      by (a ∷ x) (b ∷ y) first second =
          let led_one : led f is (a ∷ x) ≡ led f is (b ∷ y) =
          ap (led f is) (sym first) ∙ one_led f is (without_zeros w) (without_zeros v) (IsWord-without_zeros (letters_of d) w over) (IsWord-without_zeros (letters_of d) v there) alike.stripped ∙ ap (led f is) second in
          ap (past_key d) first
          ∙ ap key_to (same_runs (a ∷ x) (b ∷ y) (run_of d 0 (a ∷ x)) (run_of d 0 (b ∷ y)) refl refl (sym (led-run a x) ∙ led_one ∙ led-run b y))
          ∙ sym (ap (past_key d) second)

  past_letter : (x : List ℕ) → option_and_then (λ key. letter_of_state f (slice_index key 0)) (past_key d x) ≡ letter_after f x
  past_letter [] = refl
  past_letter (a ∷ u) = by (run_of d 0 (a ∷ u))
    where
      by : (o : Option ℕ) → option_and_then (λ key. letter_of_state f (slice_index key 0)) (key_to o) ≡ letter_in f.letters (option_map_or (λ p. class_of f.classes p) o 0)
      by None = refl
      by (Some q) = refl

  pub letters-past : (letters : ℕ) (accepts : List ℕ → Bool) (keys : List (List ℕ)) (e : Automaton) → IsExplored letters [] (past_after d) accepts keys e → 0 < states_of e
      → (w : List ℕ) → IsWord letters w → letter_led e (head_letters f keys) w ≡ letter_after f (without_zeros w)
  letters-past letters accepts keys e explored initial w over =
      letter_led-explored letters [] (past_after d) accepts keys e explored initial (λ key. letter_of_state f (slice_index key 0)) w over
      ∙ ap (option_and_then (λ key. letter_of_state f (slice_index key 0))) (run_past d w)
      ∙ past_letter (without_zeros w)
