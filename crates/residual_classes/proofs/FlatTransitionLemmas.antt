-- The transitions of an automaton in one flat table.
use Rattle.std.proofs.Common.{◌≡◌, ℕ, ◌+◌, ◌-◌, ◌<◌, ◌≤◌, ◌^◌, List, [], ◌∷◌, ◌++◌, map, length, get_or, take, zero, suc, Option, None, ◌⊎◌, inl, inr, refl, sym, ap, ◌∙◌, subst, arith}
use Rattle.std.specs.List.{sum_by}
use Rattle.std.proofs.lemmas.Bool.{cases_lt}
use Rattle.std.proofs.lemmas.List.{length-map, length-append, length_push, get_or_push, get_or-map, get_or_default, get_or_append_left, get_or-append_right, take_all}
use Rattle.std.proofs.lemmas.List.Sums.{sum_by_more, sum_by_more_le}
use Rattle.digit_tuple.specs.declared.transitions.Transition.{Transition}
use Rattle.digit_tuple.specs.Deterministic.{Automaton, State, IsTable, transitions_of, letters_of, no_state, states_of}
use Rattle.digit_tuple.specs.TransitionCounts.{transition_count}
use Rattle.digit_tuple.proofs.DfaLemmas.{row_at}
use Rattle.residual_classes.specs.Classes.{class_of, dead_class}
use Rattle.residual_classes.specs.TransitionLetters.{letter_at, with_letters}
use Rattle.residual_classes.specs.FlatTransitions.{AreLaidOut, flat_transition}
use Rattle.residual_classes.specs.Alike.{AreAlike}
use Rattle.residual_classes.proofs.TransitionLetterLemmas.{IsInPlace, letter_before, letter_after, same_with}
use Rattle.residual_classes.proofs.ClassTransitionLemmas.{alike_from_rows, class_transitions-same}

module _ (d : Automaton) (starts : List ℕ) (letters : Option (List ℕ)) (targets : List ℕ) (count : ℕ) (flat : AreLaidOut d starts letters targets count) where
  -- the transitions of a state come after those of the states before it
  start_is : count ≤ states_of d → (q : ℕ) → q ≤ count → class_of starts q ≡ sum_by (λ (s : State). length s.transitions) (take q d.states)
  start_is low zero _ = flat.begin
  start_is low (suc q) less =
      let next : q + 1 ≡ suc q = omega arith in
      subst (λ (n : ℕ). class_of starts n ≡ sum_by (λ (s : State). length s.transitions) (take n d.states)) next
      (flat.ends q (omega (arith, less)) ∙ ap (λ n. n + length (transitions_of d q)) (start_is low q (omega (arith, less)))
      ∙ sym (sum_by_more (λ (s : State). length s.transitions) d.states q no_state (omega (arith, less, low))))

  long_targets : (es : List Transition) → length (targets ++ map (λ (e : Transition). e.target) es) ≡ length targets + length es
  long_targets es = length-append targets (map (λ (e : Transition). e.target) es) ∙ ap (λ n. length targets + n) (length-map es (λ (e : Transition). e.target))

  -- with those of one more state they are no more than all
  pub transitions-within : (es : List Transition) → es ≡ transitions_of d count → count < states_of d → length (targets ++ map (λ (e : Transition). e.target) es) ≤ transition_count d
  transitions-within es is less =
      omega (arith, long_targets es, ap length is, flat.end, start_is (omega (arith, less)) count (omega arith), sum_by_more_le (λ (s : State). length s.transitions) d.states count no_state less)

  -- the transitions of one more state
  pub AreLaidOut-more : (es : List Transition) → es ≡ transitions_of d count → (letters ≡ None → IsInPlace es) → length (targets ++ map (λ (e : Transition). e.target) es) < 2 ^ 32
      → AreLaidOut d (starts ++ length (targets ++ map (λ (e : Transition). e.target) es) ∷ []) (with_letters es letters) (targets ++ map (λ (e : Transition). e.target) es) (count + 1)
  AreLaidOut-more es is full few = record {
    width = length_push starts end ∙ ap (λ n. n + 1) flat.width;
    begin = old 0 (omega arith) ∙ flat.begin;
    end = last;
    same = same_with letters targets es flat.same;
    few = few;
    ends = λ q less. ends q (cases_lt q count) less;
    within = λ q low. within q (cases_lt q (count + 1)) low;
    transitions = λ q k z less inside. transitions q k z less inside (cases_lt q count);
  }
    where
      end : ℕ
      end = length (targets ++ map (λ (e : Transition). e.target) es)

      new : List ℕ
      new = starts ++ length (targets ++ map (λ (e : Transition). e.target) es) ∷ []

      old : (q : ℕ) → q ≤ count → class_of (starts ++ length (targets ++ map (λ (e : Transition). e.target) es) ∷ []) q ≡ class_of starts q
      old q low = get_or_append_left starts (length (targets ++ map (λ (e : Transition). e.target) es) ∷ []) 0 q (omega (arith, low, flat.width))

      last : class_of (starts ++ length (targets ++ map (λ (e : Transition). e.target) es) ∷ []) (count + 1) ≡ length (targets ++ map (λ (e : Transition). e.target) es)
      last = get_or_push starts (length (targets ++ map (λ (e : Transition). e.target) es)) 0 (count + 1) flat.width

      ends : (q : ℕ) → (q < count) ⊎ (count ≤ q) → q < count + 1
          → class_of (starts ++ length (targets ++ map (λ (e : Transition). e.target) es) ∷ []) (q + 1) ≡ class_of (starts ++ length (targets ++ map (λ (e : Transition). e.target) es) ∷ []) q + length (transitions_of d q)
      ends q (inl before) less = omega (arith, old (q + 1) (omega (arith, before)), old q (omega (arith, before)), flat.ends q before)
      ends q (inr past) less =
          let same : q ≡ count = omega arith in
          ap (λ n. class_of (starts ++ length (targets ++ map (λ (e : Transition). e.target) es) ∷ []) (n + 1)) same ∙ last ∙ long_targets es
          ∙ ap (λ n. n + length es) (sym flat.end ∙ sym (old count (omega arith)) ∙ ap (class_of (starts ++ length (targets ++ map (λ (e : Transition). e.target) es) ∷ [])) (sym same))
          ∙ ap (λ n. class_of (starts ++ length (targets ++ map (λ (e : Transition). e.target) es) ∷ []) q + n) (ap length is ∙ ap (λ n. length (transitions_of d n)) (sym same))

      within : (q : ℕ) → (q < count + 1) ⊎ (count + 1 ≤ q) → q ≤ count + 1 → class_of (starts ++ length (targets ++ map (λ (e : Transition). e.target) es) ∷ []) q ≤ length (targets ++ map (λ (e : Transition). e.target) es)
      within q (inl before) low = omega (arith, old q (omega (arith, before)), flat.within q (omega (arith, before)), long_targets es)
      within q (inr past) low = let same : q ≡ count + 1 = omega arith in omega (arith, ap (class_of (starts ++ length (targets ++ map (λ (e : Transition). e.target) es) ∷ [])) same ∙ last)

      after : List ℕ
      after = targets ++ map (λ (e : Transition). e.target) es

      transitions : (q k : ℕ) (z : Transition) → q < count + 1 → k < length (transitions_of d q) → (q < count) ⊎ (count ≤ q)
          → get_or (transitions_of d q) k z ≡ flat_transition (with_letters es letters) (targets ++ map (λ (e : Transition). e.target) es) (class_of (starts ++ length (targets ++ map (λ (e : Transition). e.target) es) ∷ []) q) (class_of (starts ++ length (targets ++ map (λ (e : Transition). e.target) es) ∷ []) q + k)
      transitions q k z less inside (inl before) =
          let at : class_of starts q + k < length targets = omega (arith, flat.ends q before, flat.within (q + 1) (omega (arith, before)), inside) in
          let one = letter_before letters targets es flat.same (class_of starts q) (class_of starts q + k) at in
          let two : class_of targets (class_of starts q + k) ≡ class_of after (class_of starts q + k) = sym (get_or_append_left targets (map (λ (e : Transition). e.target) es) 0 (class_of starts q + k) at) in
          flat.transitions q k z before inside
          ∙ ap (λ (x : ℕ). let e : Transition = record { letter = x; target = class_of targets (class_of starts q + k) } in e) one
          ∙ ap (λ (x : ℕ). let e : Transition = record { letter = letter_at (with_letters es letters) (class_of starts q) (class_of starts q + k); target = x } in e) two
          ∙ ap (λ n. flat_transition (with_letters es letters) after n (n + k)) (sym (old q (omega (arith, before))))
      transitions q k z less inside (inr past) =
          let same : q ≡ count = omega arith in
          let own : transitions_of d q ≡ es = ap (transitions_of d) same ∙ sym is in
          let low : k < length es = omega (arith, inside, ap length own) in
          let place : class_of (starts ++ length (targets ++ map (λ (e : Transition). e.target) es) ∷ []) q ≡ length targets = ap (class_of (starts ++ length (targets ++ map (λ (e : Transition). e.target) es) ∷ [])) same ∙ old count (omega arith) ∙ flat.end in
          let one = letter_after letters targets es flat.same full k z low in
          let two : (get_or es k z).target ≡ class_of after (length targets + k) =
          sym (get_or-append_right targets (map (λ (e : Transition). e.target) es) (length targets) (length targets + k) 0 refl (omega arith)
          ∙ ap (class_of (map (λ (e : Transition). e.target) es)) (omega arith) ∙ get_or-map (λ (e : Transition). e.target) es k z 0 low) in
          ap (λ (xs : List Transition). get_or xs k z) own
          ∙ ap (λ (x : ℕ). let e : Transition = record { letter = x; target = (get_or es k z).target } in e) one
          ∙ ap (λ (x : ℕ). let e : Transition = record { letter = letter_at (with_letters es letters) (length targets) (length targets + k); target = x } in e) two
          ∙ ap (λ n. flat_transition (with_letters es letters) after n (n + k)) (sym place)

-- the table has as many targets as there are transitions
pub transition_count-flat : (d : Automaton) (starts : List ℕ) (letters : Option (List ℕ)) (targets : List ℕ) → AreLaidOut d starts letters targets (states_of d) → length targets ≡ transition_count d
transition_count-flat d starts letters targets flat =
    sym flat.end ∙ start_is d starts letters targets (states_of d) flat (omega arith) (states_of d) (omega arith)
    ∙ ap (sum_by (λ (s : State). length s.transitions)) (take_all (states_of d) d.states (omega arith))

-- at a place of the table is a transition of a state
pub record HasPlace (d : Automaton) (starts : List ℕ) (letters : Option (List ℕ)) (targets : List ℕ) (q place : ℕ) : Type 0 where
  pub inside : place - class_of starts q < length (transitions_of d q)
  pub within : place < length targets
  pub target : class_of targets place < states_of d
  pub transition : (z : Transition) → get_or (transitions_of d q) (place - class_of starts q) z ≡ flat_transition letters targets (class_of starts q) place

module _ (d : Automaton) (starts : List ℕ) (letters : Option (List ℕ)) (targets : List ℕ) (flat : AreLaidOut d starts letters targets (states_of d)) (table : IsTable (letters_of d) d.states) where
  -- the places between two starts are those of a state's transitions
  pub HasPlace-between : (q place : ℕ) → q < states_of d → class_of starts q ≤ place → place < class_of starts (q + 1) → HasPlace d starts letters targets q place
  HasPlace-between q place less after before = record {
    inside = inside;
    within = omega (arith, before, flat.within (q + 1) (omega (arith, less)));
    target = omega (arith, ((row_at d q table less).in_range (place - class_of starts q) (record { letter = 0; target = 0 }) inside).1, ap (λ (e : Transition). e.target) (transition (record { letter = 0; target = 0 })));
    transition = transition;
  }
    where
      inside : place - class_of starts q < length (transitions_of d q)
      inside = omega (arith, flat.ends q less, before, after)

      back : class_of starts q + (place - class_of starts q) ≡ place
      back = omega (arith, after)

      transition : (z : Transition) → get_or (transitions_of d q) (place - class_of starts q) z ≡ flat_transition letters targets (class_of starts q) place
      transition z = flat.transitions q (place - class_of starts q) z less inside ∙ ap (flat_transition letters targets (class_of starts q)) back

  -- where letters are places, a transition is by the letter of its place
  pub transition_by_place : letters ≡ None → (q k : ℕ) (z : Transition) → q < states_of d → k < length (transitions_of d q) → get_or (transitions_of d q) k z ≡ record { letter = k; target = class_of targets (class_of starts q + k) }
  transition_by_place none q k z less inside =
      let letter : class_of starts q + k - class_of starts q ≡ k = omega arith in
      flat.transitions q k z less inside
      ∙ ap (λ (ls : Option (List ℕ)). flat_transition ls targets (class_of starts q) (class_of starts q + k)) none
      ∙ ap (λ (l : ℕ). let e : Transition = record { letter = l; target = class_of targets (class_of starts q + k) } in e) letter

  -- the start that is read
  pub start_read : (q start : ℕ) → q ≤ states_of d → start ≡ get_or starts q start → start ≡ class_of starts q
  start_read q start low is = is ∙ get_or_default starts q start 0 (omega (arith, low, flat.width))

  pub HasPlace-read : (q place start end : ℕ) → q < states_of d → start ≡ get_or starts q start → end ≡ get_or starts (q + 1) end → start ≤ place → place < end → HasPlace d starts letters targets q place
  HasPlace-read q place start end less first last after before =
      HasPlace-between q place less (omega (arith, after, start_read q start (omega (arith, less)) first)) (omega (arith, before, start_read (q + 1) end (omega (arith, less)) last))

  module _ (classes : List ℕ) (p q count : ℕ) (less : p < states_of d) (low : q < states_of d) (own : class_of classes p ≡ class_of classes q)
      (one : class_of starts (p + 1) ≡ class_of starts p + count) (other : class_of starts (q + 1) ≡ class_of starts q + count) where
    -- states are alike that have one class and transitions by the same letters to the same classes
    pub AreAlike-flat : ((k : ℕ) → k < count → letter_at letters (class_of starts p) (class_of starts p + k) ≡ letter_at letters (class_of starts q) (class_of starts q + k)) → ((k : ℕ) → k < count → class_of classes (class_of targets (class_of starts p + k)) ≡ class_of classes (class_of targets (class_of starts q + k))) → AreAlike d classes p q
    AreAlike-flat by_letters to_classes =
        alike_from_rows d classes table p q own
        (class_transitions-same classes (dead_class d classes) (transitions_of d p) (transitions_of d q) (omega (arith, long, flat.ends q low, other)) (λ k inside. (
          ap (λ (e : Transition). e.letter) (flat.transitions p k z less inside) ∙ by_letters k (omega (arith, inside, long)) ∙ sym (ap (λ (e : Transition). e.letter) (flat.transitions q k z low (omega (arith, inside, long, flat.ends q low, other)))),
          ap (λ (e : Transition). class_of classes e.target) (flat.transitions p k z less inside) ∙ to_classes k (omega (arith, inside, long)) ∙ sym (ap (λ (e : Transition). class_of classes e.target) (flat.transitions q k z low (omega (arith, inside, long, flat.ends q low, other)))),
        )))
      where
        z : Transition
        z = record { letter = 0; target = 0 }

        long : length (transitions_of d p) ≡ count
        long = omega (arith, flat.ends p less, one)
