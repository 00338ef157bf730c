-- Automata at whose initial state zeros stay: where words lead, and what distinguishes them.
use Rattle.std.proofs.Common.{◌≡◌, ◌==◌, ℕ, zero, suc, ◌+◌, ◌<◌, ◌≤◌, Bool, true, false, List, [], ◌∷◌, ◌++◌, get_or, Option, None, Some, unwrap_or, ◌⊎◌, inl, inr, IsTrue, ◌↔◌, refl, sym, ap, ◌∙◌, subst, true≢false, arith}
use Rattle.std.proofs.lemmas.Bool.{cases_lt, eqb-false, eqb-true}
use Rattle.std.proofs.lemmas.List.Elements.{All-contains}
use Rattle.digit_tuple.specs.declared.direction.Direction.TheVariants.{Msd}
use Rattle.digit_tuple.specs.declared.transitions.Transition.{Transition}
use Rattle.digit_tuple.specs.Deterministic.{Automaton, accepting_of, accepts_of, transitions_of, letters_of, states_of, step_of, target_by}
use Rattle.digit_tuple.specs.Letters.{IsWord}
use Rattle.digit_tuple.specs.Paddings.{zeros, without_zeros}
use Rattle.digit_tuple.specs.Reversed.{transition_to}
use Rattle.digit_tuple.specs.Width.{HasApart, HasWidth}
use Rattle.digit_tuple.proofs.PaddingLemmas.{IsWord-without_zeros, IsWord-zeros_before, without_zeros-twice}
use Rattle.digit_tuple.proofs.ReversedLemmas.{contains_from_target_by}
use Rattle.digit_tuple.proofs.WordLemmas.{IsWord-push}
use Rattle.minimise.specs.Canonical.{IsCanonical}
use Rattle.residual_classes.specs.Classes.{first_of, next_of}
use Rattle.minimise.specs.Residuals.{IsDead, IsEmptyAfter, SameAfter}
use Rattle.minimise.proofs.CanonicalLemmas.{step_within}
use Rattle.minimise.proofs.LeadLemmas.{IsPlace, SameAfter-lead, accepting_of-lead, accepts_from-lead, first_place, lead, lead_place, one_lead}
use Rattle.residual_classes.proofs.SinkLemmas.{no_transitions_past, row_of}
use Rattle.pad_rename.specs.Padding.{AreZeros, HasResidualsOf, IsPadded, MsdPaddedAlike}
use Rattle.pad_rename.specs.ZerosStay.{AreEnds, HasGap, HasReturn, ZerosStay}
use Rattle.pad_rename.proofs.NoWordLemmas.{dead_from_sink}
use Rattle.pad_rename.proofs.SinkLeads.{first_cases, lead-append, lead_from_run, lead_within}
use Rattle.pad_rename.proofs.ValueWidths.{HasApart-values, HasWidth-values}

-- 1 for what was found, else 0
abbrev pub one_if : Bool → ℕ
one_if true = 1
one_if false = 0

-- a word with one letter more is of zeros alone where both are
zeros_push : (w : List ℕ) (a : ℕ) → AreZeros (w ++ a ∷ []) → AreZeros w × (a ≡ 0)
zeros_push [] zero are = (refl, refl)
zeros_push [] (suc a) are = let no : (suc a ∷ []) ≡ [] = are in cc
zeros_push (zero ∷ w) a are = zeros_push w a are
zeros_push (suc b ∷ w) a are = let no : (suc b ∷ (w ++ a ∷ [])) ≡ [] = are in cc

module _ (d : Automaton) (canonical : IsCanonical d) where
  -- a letter that leads to a state is a letter, and leads from a state
  letter_of_step : (q a t : ℕ) → step_of d q a ≡ Some t → a < letters_of d
  letter_of_step q a t step = (All-contains (λ (e : Transition). (e.letter < letters_of d) × (e.target < states_of d)) (transitions_of d q) (transition_to a t) (row_of d canonical.table q).in_range (contains_from_target_by (transitions_of d q) a t step)).0

  from_state : (q a t : ℕ) → step_of d q a ≡ Some t → q < states_of d
  from_state q a t step = by (cases_lt q (states_of d))
    where
      by : (q < states_of d) ⊎ (states_of d ≤ q) → q < states_of d
      by (inl within) = within
      by (inr past) = absurd (let none : None ≡ Some t = sym (ap (λ (es : List Transition). target_by es a) (no_transitions_past d q past)) ∙ step in cc)

  -- a word that leads from a state to the sink shows a letter that leads nowhere
  gap_from : (u : List ℕ) (q : ℕ) → q < states_of d → IsWord (letters_of d) u → lead d q u ≡ states_of d → HasGap d (states_of d)
  gap_from [] q within over leads = absurd (omega (arith, within, leads))
  gap_from (a ∷ u) q within over leads = by (step_of d q a) refl leads (λ p. gap_from u p)
    where
      by : (o : Option ℕ) → step_of d q a ≡ o → lead d (unwrap_or o (states_of d)) u ≡ states_of d → ((p : ℕ) → p < states_of d → IsWord (letters_of d) u → lead d p u ≡ states_of d → HasGap d (states_of d)) → HasGap d (states_of d)
      by None is to_sink rest = (q, (a, within, over.0, is))
      by (Some p) is to_sink rest = rest p (step_within d q a p canonical.table within is) over.1 to_sink

  -- a word that leads to the initial state, not by zeros from there alone, shows a return
  return_from : (u : List ℕ) (q : ℕ) → ¬ ((q ≡ 0) × AreZeros u) → lead d q u ≡ 0 → HasReturn d (states_of d)
  return_from [] q other leads = absurd (other (leads, refl))
  return_from (a ∷ u) q other leads = by (next_of d q a == 0) refl (without_zeros u) refl (return_from u (next_of d q a))
    where
      step : (o : Option ℕ) → unwrap_or o (states_of d) ≡ 0 → o ≡ Some 0
      step None is = absurd (omega (arith, is, canonical.table.initial))
      step (Some t) is = ap Some is

      by : (b : Bool) → (next_of d q a == 0) ≡ b → (v : List ℕ) → without_zeros u ≡ v → (¬ ((next_of d q a ≡ 0) × AreZeros u) → lead d (next_of d q a) u ≡ 0 → HasReturn d (states_of d)) → HasReturn d (states_of d)
      by true is [] none rest =
          let back : step_of d q a ≡ Some 0 = step (step_of d q a) (eqb-true (next_of d q a) 0 is) in
          (q, (a, from_state q a 0 back, back, λ both. other (both.0, ap (λ b. without_zeros (b ∷ u)) both.1 ∙ none)))
      by true is (c ∷ v) some rest = rest (λ both. let no : (c ∷ v) ≡ [] = sym some ∙ both.1 in cc) leads
      by false is v some rest = rest (λ both. eqb-false (next_of d q a) 0 is both.0) leads

  module _ (stay : ZerosStay d) where
    some_letter : 0 < letters_of d
    some_letter = letter_of_step 0 0 0 stay

    begins : first_of d ≡ 0
    begins = by (first_cases d)
      where
        by : (first_of d ≡ states_of d) ⊎ (first_of d ≡ 0) → first_of d ≡ 0
        by (inl sink) = absurd (canonical.live 0 0 0 canonical.table.initial some_letter stay (dead_from_sink d sink))
        by (inr is) = is

    next_zero : next_of d 0 0 ≡ 0
    next_zero = ap (λ (o : Option ℕ). unwrap_or o (states_of d)) stay

    -- zeros before a word change nothing
    lead-zeros : (k : ℕ) (w : List ℕ) → lead d 0 (zeros k ++ w) ≡ lead d 0 w
    lead-zeros zero w = refl
    lead-zeros (suc k) w = ap (λ q. lead d q (zeros k ++ w)) next_zero ∙ lead-zeros k w

    lead-without_zeros : (w : List ℕ) → lead d 0 w ≡ lead d 0 (without_zeros w)
    lead-without_zeros [] = refl
    lead-without_zeros (zero ∷ w) = ap (λ q. lead d q w) next_zero ∙ lead-without_zeros w
    lead-without_zeros (suc a ∷ w) = refl

    lead-are_zeros : (w : List ℕ) → AreZeros w → lead d 0 w ≡ 0
    lead-are_zeros w are = lead-without_zeros w ∙ ap (lead d 0) are

    place : (w : List ℕ) → IsWord (letters_of d) w → IsPlace d (lead d 0 w)
    place w over = subst (λ q. IsPlace d (lead d q w)) begins (lead_place d canonical w (first_of d) (first_place d canonical) over)

    same_after : (w v : List ℕ) → lead d 0 w ≡ lead d 0 v → SameAfter d w v
    same_after w v same = SameAfter-lead d w v (ap (λ q. lead d q w) begins ∙ same ∙ ap (λ q. lead d q v) (sym begins))

    lead_after : (w v : List ℕ) → IsWord (letters_of d) w → IsWord (letters_of d) v → SameAfter d w v → lead d 0 w ≡ lead d 0 v
    lead_after w v over there same = ap (λ q. lead d q w) (sym begins) ∙ one_lead d canonical w v over there same ∙ ap (λ q. lead d q v) begins

    -- the language is closed under leading zeros
    pub accepts-padded : (w : List ℕ) → IsWord (letters_of d) w → IsTrue (accepts_of d w) ↔ IsPadded Msd d w
    accepts-padded w over = ((λ is. (w, over, refl, is)), (λ padded. accepting_of-lead d w 0 ∙ ap (accepting_of d) (same padded.0 padded.2) ∙ sym (accepting_of-lead d padded.0 0) ∙ padded.3))
      where
        same : (v : List ℕ) → without_zeros v ≡ without_zeros w → lead d 0 w ≡ lead d 0 v
        same v is = lead-without_zeros w ∙ ap (lead d 0) (sym is) ∙ sym (lead-without_zeros v)

    -- words with the same residuals after zeros lead to one state, or both to the sink
    same_lead : (x y : List ℕ) → IsWord (letters_of d) x → IsWord (letters_of d) y → HasResidualsOf d x y → HasResidualsOf d y x → lead d 0 x ≡ lead d 0 y
    same_lead x y over there to back = by (place x over) (place y there)
      where
        alive : (v : List ℕ) → ¬ IsDead d (lead d 0 v) → ¬ IsEmptyAfter d v
        alive v live empty = live (λ u more. sym (accepts_from-lead d v u 0) ∙ empty u more)

        from_live : (v u : List ℕ) → IsWord (letters_of d) v → IsWord (letters_of d) u → HasResidualsOf d v u → ¬ IsDead d (lead d 0 v) → lead d 0 v ≡ lead d 0 u
        from_live v u inside other has live =
            let found = has 0 (alive v live) in
            lead_after v (zeros found.0 ++ u) inside (IsWord-zeros_before (letters_of d) found.0 u some_letter other) found.1 ∙ lead-zeros found.0 u

        by : IsPlace d (lead d 0 x) → IsPlace d (lead d 0 y) → lead d 0 x ≡ lead d 0 y
        by (inr live) p = from_live x y over there to live.1
        by (inl xs) (inr live) = sym (from_live y x there over back live.1)
        by (inl xs) (inl ys) = xs ∙ sym ys

    module _ (returns gap : Bool) (ends : AreEnds d (states_of d) returns gap) where
      -- the number of a word without leading zeros: 0 for the empty one, else from that of the state on, moved by one where there is a return
      abbrev number : List ℕ → ℕ
      number [] = 0
      number (a ∷ u) = lead d 0 (a ∷ u) + one_if returns

      abbrev value : List ℕ → ℕ
      value w = number (without_zeros w)

      abbrev count : ℕ
      count = states_of d + one_if returns + one_if gap

      value-at : (w : List ℕ) → ¬ AreZeros w → value w ≡ lead d 0 w + one_if returns
      value-at w other = by (without_zeros w) refl (lead-without_zeros w)
        where
          by : (v : List ℕ) → without_zeros w ≡ v → lead d 0 w ≡ lead d 0 v → number v ≡ lead d 0 w + one_if returns
          by [] is leads = absurd (other is)
          by (a ∷ u) is leads = ap (λ q. q + one_if returns) (sym leads)

      -- alike words have one number
      alike_value : (w v : List ℕ) → IsWord (letters_of d) w → IsWord (letters_of d) v → MsdPaddedAlike d w v → value w ≡ value v
      alike_value w v over there alike = by (without_zeros w) (without_zeros v) (IsWord-without_zeros (letters_of d) w over) (IsWord-without_zeros (letters_of d) v there) alike.zeros alike.to alike.back
        where
          by : (x y : List ℕ) → IsWord (letters_of d) x → IsWord (letters_of d) y → ((x ≡ []) ↔ (y ≡ [])) → HasResidualsOf d x y → HasResidualsOf d y x → number x ≡ number y
          by [] [] one two iff to back = refl
          by [] (b ∷ y) one two iff to back = let no : (b ∷ y) ≡ [] = iff.0 refl in cc
          by (a ∷ x) [] one two iff to back = let no : (a ∷ x) ≡ [] = iff.1 refl in cc
          by (a ∷ x) (b ∷ y) one two iff to back = ap (λ q. q + one_if returns) (same_lead (a ∷ x) (b ∷ y) one two to back)

      -- a word that is not of zeros alone has a number above 0
      number_above : (v : List ℕ) (b : ℕ) (y : List ℕ) → without_zeros v ≡ b ∷ y → ¬ (lead d 0 (b ∷ y) + one_if returns ≡ 0)
      number_above v b y is none = by returns ends.returns_is none
        where
          by : (r : Bool) → ((r ≡ true) ↔ HasReturn d (states_of d)) → ¬ (lead d 0 (b ∷ y) + one_if r ≡ 0)
          by true iff same = omega (arith, same)
          by false iff same = true≢false (sym (iff.1 (return_from (b ∷ y) 0 (λ both. let twice : without_zeros (b ∷ y) ≡ b ∷ y = ap without_zeros (sym is) ∙ without_zeros-twice v ∙ is in let no : (b ∷ y) ≡ [] = sym twice ∙ both.1 in cc) (omega (arith, same)))))

      -- and words of one number are alike
      value_alike : (w v : List ℕ) → value w ≡ value v → MsdPaddedAlike d w v
      value_alike w v same = by (without_zeros w) (without_zeros v) refl refl same
        where
          has : (x y : List ℕ) → lead d 0 x ≡ lead d 0 y → HasResidualsOf d x y
          has x y leads k some = (0, same_after (zeros k ++ x) y (lead-zeros k x ∙ leads))

          by : (x y : List ℕ) → without_zeros w ≡ x → without_zeros v ≡ y → number x ≡ number y → MsdPaddedAlike d w v
          by [] [] one two is = record {
            zeros = ((λ are. two), (λ are. one));
            to = subst (λ z. HasResidualsOf d (without_zeros w) z) (one ∙ sym two) (has (without_zeros w) (without_zeros w) refl);
            back = subst (λ z. HasResidualsOf d (without_zeros v) z) (two ∙ sym one) (has (without_zeros v) (without_zeros v) refl);
          }
          by [] (b ∷ y) one two is = absurd (number_above v b y two (sym is))
          by (a ∷ x) [] one two is = absurd (number_above w a x one is)
          by (a ∷ x) (b ∷ y) one two is =
              let leads : lead d 0 (a ∷ x) ≡ lead d 0 (b ∷ y) = omega (arith, is) in
              record {
                zeros = ((λ are. let no : (a ∷ x) ≡ [] = sym one ∙ are in cc), (λ are. let no : (b ∷ y) ≡ [] = sym two ∙ are in cc));
                to = has (without_zeros w) (without_zeros v) (ap (lead d 0) one ∙ leads ∙ ap (lead d 0) (sym two));
                back = has (without_zeros v) (without_zeros w) (ap (lead d 0) two ∙ sym leads ∙ ap (lead d 0) (sym one));
              }

      -- each number is below the count
      value_below : (w : List ℕ) → IsWord (letters_of d) w → value w < count
      value_below w over = by (without_zeros w) (IsWord-without_zeros (letters_of d) w over)
        where
          at_end : (u : List ℕ) → IsWord (letters_of d) u → lead d 0 u ≡ states_of d → lead d 0 u + one_if returns < count
          at_end u inside leads = at gap ends.gap_is
            where
              at : (g : Bool) → ((g ≡ true) ↔ HasGap d (states_of d)) → lead d 0 u + one_if returns < states_of d + one_if returns + one_if g
              at true iff = omega (arith, leads)
              at false iff = absurd (true≢false (sym (iff.1 (gap_from u 0 canonical.table.initial inside leads))))

          by : (x : List ℕ) → IsWord (letters_of d) x → number x < count
          by [] inside = omega (arith, canonical.table.initial)
          by (a ∷ u) inside = one (cases_lt (lead d 0 (a ∷ u)) (states_of d))
            where
              one : (lead d 0 (a ∷ u) < states_of d) ⊎ (states_of d ≤ lead d 0 (a ∷ u)) → lead d 0 (a ∷ u) + one_if returns < count
              one (inl less) = omega (arith, less)
              one (inr past) = at_end (a ∷ u) inside (omega (arith, past, lead_within d canonical.table (a ∷ u) 0 (omega arith)))

      abbrev first_word : ℕ → List ℕ
      first_word q = get_or canonical.firsts q []

      first_lead : (q : ℕ) → q < states_of d → lead d 0 (first_word q) ≡ q
      first_lead q within = lead_from_run d (first_word q) 0 q (canonical.numbered.lead q within)

      -- the first word of a state and a letter lead where the letter leads from the state
      push_lead : (q a : ℕ) → q < states_of d → lead d 0 (first_word q ++ a ∷ []) ≡ next_of d q a
      push_lead q a within = lead-append d (first_word q) (a ∷ []) 0 ∙ ap (λ p. next_of d p a) (first_lead q within)

      -- a word with the number of a state, or of the sink
      abbrev Leads : ℕ → Type 0
      Leads q = (w : List ℕ) × IsWord (letters_of d) w × (value w ≡ q + one_if returns)

      back_word : HasReturn d (states_of d) → Leads 0
      back_word found =
          let q = found.0 in
          let a = found.1.0 in
          let leads : lead d 0 (first_word q ++ a ∷ []) ≡ 0 = push_lead q a found.1.1 ∙ ap (λ (o : Option ℕ). unwrap_or o (states_of d)) found.1.2 in
          let other : ¬ AreZeros (first_word q ++ a ∷ []) =
          λ are. let both = zeros_push (first_word q) a are in found.1.3 (sym (first_lead q found.1.1) ∙ lead-are_zeros (first_word q) both.0, both.1) in (
            first_word q ++ a ∷ [],
            IsWord-push (letters_of d) (first_word q) a (canonical.numbered.over q found.1.1) (letter_of_step q a 0 found.1.2),
            value-at (first_word q ++ a ∷ []) other ∙ ap (λ p. p + one_if returns) leads,
          )

      gap_word : HasGap d (states_of d) → Leads (states_of d)
      gap_word found =
          let q = found.0 in
          let a = found.1.0 in
          let leads : lead d 0 (first_word q ++ a ∷ []) ≡ states_of d = push_lead q a found.1.1 ∙ ap (λ (o : Option ℕ). unwrap_or o (states_of d)) found.1.3 in
          let other : ¬ AreZeros (first_word q ++ a ∷ []) = λ are. omega (arith, leads, lead-are_zeros (first_word q ++ a ∷ []) are, canonical.table.initial) in (
            first_word q ++ a ∷ [],
            IsWord-push (letters_of d) (first_word q) a (canonical.numbered.over q found.1.1) found.1.2,
            value-at (first_word q ++ a ∷ []) other ∙ ap (λ p. p + one_if returns) leads,
          )

      state_word : (q : ℕ) → 0 < q → q < states_of d → Leads q
      state_word q later within =
          let leads = first_lead q within in
          let other : ¬ AreZeros (first_word q) = λ are. omega (arith, later, leads, lead-are_zeros (first_word q) are) in
          (first_word q, canonical.numbered.over q within, value-at (first_word q) other ∙ ap (λ p. p + one_if returns) leads)

      to_state : (q : ℕ) → q ≤ states_of d → (q ≡ 0 → returns ≡ true) → (q ≡ states_of d → gap ≡ true) → Leads q
      to_state zero low first last = back_word (ends.returns_is.0 (first refl))
      to_state (suc p) low first last = by (cases_lt (suc p) (states_of d))
        where
          by : (suc p < states_of d) ⊎ (states_of d ≤ suc p) → Leads (suc p)
          by (inl less) = state_word (suc p) (omega arith) less
          by (inr past) = let is : suc p ≡ states_of d = omega (arith, past, low) in subst Leads (sym is) (gap_word (ends.gap_is.0 (last is)))

      one_if-small : (b : Bool) → one_if b ≤ 1
      one_if-small true = omega arith
      one_if-small false = omega arith

      -- the sink has a number below the count where a letter leads nowhere
      gap_found : states_of d + one_if returns < count → gap ≡ true
      gap_found small = by gap refl
        where
          by : (g : Bool) → gap ≡ g → gap ≡ true
          by true is = is
          by false is = absurd (omega (arith, small, ap one_if is))

      -- each number below the count is a word's
      some_word : (j : ℕ) → j < count → (w : List ℕ) × IsWord (letters_of d) w × (value w ≡ j)
      some_word zero small = ([], tt, refl)
      some_word (suc j) small = by returns refl
        where
          by : (r : Bool) → returns ≡ r → (w : List ℕ) × IsWord (letters_of d) w × (value w ≡ suc j)
          by true is =
              let one : one_if returns ≡ 1 = ap one_if is in
              let found = to_state j (omega (arith, small, one, one_if-small gap)) (λ none. is) (λ last. gap_found (omega (arith, small, one, last))) in
              (found.0, found.1, omega (arith, found.2, one))
          by false is =
              let none : one_if returns ≡ 0 = ap one_if is in
              let found = to_state (suc j) (omega (arith, small, none, one_if-small gap)) (λ first. absurd (omega (arith, first))) (λ last. gap_found (omega (arith, small, none, last))) in
              (found.0, found.1, omega (arith, found.2, none))

      -- so the count is the width of the closure
      pub HasWidth-ends : HasWidth (MsdPaddedAlike d) (letters_of d) count
      HasWidth-ends = HasWidth-values (MsdPaddedAlike d) (letters_of d) count value alike_value some_word value_below (λ w v over there same. value_alike w v same)

      pub HasApart-ends : (n : ℕ) → n ≤ count → HasApart (MsdPaddedAlike d) (letters_of d) n
      HasApart-ends = HasApart-values (MsdPaddedAlike d) (letters_of d) count value alike_value some_word
