-- Transitions that are set, and states that are added.
use Rattle.std.proofs.Common.{◌≡◌, ◌≢◌, ◌==◌, ℕ, zero, suc, ◌+◌, ◌<◌, ◌≤◌, ◌^◌, Bool, if◌then◌else◌, List, [], ◌∷◌, ◌++◌, take, drop, set, length, get_or, Some, ◌⊎◌, inl, inr, refl, sym, ap, ◌∙◌, subst, arith, get_or-set_same, get_or-set_other, length-set}
use Rattle.std.specs.List.{All, AllPairs, AllWithin}
use Rattle.std.proofs.lemmas.Bool.{cases_order, cases_lt}
use Rattle.std.proofs.lemmas.List.{length_push}
use Rattle.std.proofs.lemmas.List.Elements.{All-set, All-append, All-take, All-drop, All-cons, All-push, All-weaker}
use Rattle.std.proofs.lemmas.List.Kept.{AllPairs-cons}
use Rattle.digit_tuple.specs.declared.transitions.Transition.{Transition}
use Rattle.digit_tuple.specs.Deterministic.{Automaton, State, IsPartTable, IsRow, IsByEarlier, IsTransitionSet, KeepsRow, IsSet, target_by, no_state, state_of, states_of, accepting_of, transitions_of, step_of, letters_of}
use Rattle.digit_tuple.proofs.DfaLemmas.{target_by-other, target_by-first, target_by-at}

-- a transition of the letter that is replaced
module _ (es : List Transition) (place : ℕ) (v : Transition) (ascending : AllPairs IsByEarlier es) (within : place < length es) (same : (d : Transition) → (get_or es place d).letter ≡ v.letter) where
  letter_kept : (k : ℕ) (d : Transition) → (get_or (set es place v) k d).letter ≡ (get_or es k d).letter
  letter_kept k d = by (cases_order k place)
    where
      by : (k ≡ place) ⊎ ((k < place) ⊎ (place < k)) → (get_or (set es place v) k d).letter ≡ (get_or es k d).letter
      by (inl is) = subst (λ n. (get_or (set es place v) n d).letter ≡ (get_or es n d).letter) (sym is) (ap (λ (e : Transition). e.letter) (get_or-set_same es place v d within) ∙ sym (same d))
      by (inr (inl less)) = ap (λ (e : Transition). e.letter) (get_or-set_other es place k v d (omega arith))
      by (inr (inr more)) = ap (λ (e : Transition). e.letter) (get_or-set_other es place k v d (omega arith))

  pub IsTransitionSet-set : AllWithin (λ e. e.letter < v.letter) es 0 place → IsTransitionSet es (set es place v) v.letter v.target
  IsTransitionSet-set before = record {
    there = target_by-at (set es place v) v.letter place v (λ k d low high. omega (arith, letter_kept k d, before k d low high)) (omega (arith, length-set es place v)) (ap (λ (e : Transition). e.letter) (get_or-set_same es place v v within))
        ∙ ap (λ (e : Transition). Some e.target) (get_or-set_same es place v v within);
    elsewhere = λ a other. at es place within same a other;
  }
    where
      at : (fs : List Transition) (k : ℕ) → k < length fs → ((d : Transition) → (get_or fs k d).letter ≡ v.letter) → (a : ℕ) → a ≢ v.letter → target_by (set fs k v) a ≡ target_by fs a
      at [] k inside alike a other = absurd (omega arith)
      at (f ∷ fs) zero inside alike a other = target_by-other v fs a (λ is. other (sym is)) ∙ sym (target_by-other f fs a (λ is. other (sym is ∙ alike f)))
      at (f ∷ fs) (suc k) inside alike a other = ap (λ o. if f.letter == a then Some f.target else o) (at fs k (omega arith) alike a other)

-- a transition that is put in
module _ (x : Transition) where
  abbrev put : List Transition → ℕ → List Transition
  put es place = take place es ++ x ∷ drop place es

  put_there : (es : List Transition) (place : ℕ) → place ≤ length es → AllWithin (λ e. e.letter < x.letter) es 0 place → target_by (put es place) x.letter ≡ Some x.target
  put_there es zero within before = target_by-first x es x.letter refl
  put_there [] (suc place) within before = absurd (omega arith)
  put_there (e ∷ es) (suc place) within before =
      let less : e.letter < x.letter = before 0 e (omega arith) (omega arith) in
      target_by-other e (put es place) x.letter (λ is. omega (arith, is, less)) ∙ put_there es place (omega arith) (λ k d low high. before (suc k) d (omega arith) (omega arith))

  put_elsewhere : (es : List Transition) (place : ℕ) → place ≤ length es → (a : ℕ) → a ≢ x.letter → target_by (put es place) a ≡ target_by es a
  put_elsewhere es zero within a other = target_by-other x es a (λ is. other (sym is))
  put_elsewhere [] (suc place) within a other = absurd (omega arith)
  put_elsewhere (e ∷ es) (suc place) within a other = ap (λ o. if e.letter == a then Some e.target else o) (put_elsewhere es place (omega arith) a other)

  put_all : (P : Transition → Type 0) (es : List Transition) (place : ℕ) → P x → All P es → All P (put es place)
  put_all P es place here all = All-append P (take place es) (x ∷ drop place es) (All-take P place es all) (All-cons P x (drop place es) here (All-drop P place es all))

  put_ascending : (es : List Transition) (place : ℕ) → place ≤ length es → AllPairs IsByEarlier es → AllWithin (λ e. e.letter < x.letter) es 0 place → AllWithin (λ e. x.letter < e.letter) es place (length es) → AllPairs IsByEarlier (put es place)
  put_ascending es zero within ascending before after = AllPairs-cons IsByEarlier x es (λ k d inside. after k d (omega arith) inside) ascending
  put_ascending [] (suc place) within ascending before after = absurd (omega arith)
  put_ascending (e ∷ es) (suc place) within ascending before after =
      AllPairs-cons IsByEarlier e (put es place) (put_all (IsByEarlier e) es place (before 0 e (omega arith) (omega arith)) (λ k d inside. ascending 0 (suc k) d (omega arith) (omega arith)))
      (put_ascending es place (omega arith) (λ i j d less inside. ascending (suc i) (suc j) d (omega arith) (omega arith))
      (λ k d low high. before (suc k) d (omega arith) (omega arith)) (λ k d low high. after (suc k) d (omega arith) (omega arith)))

  pub KeepsRow-put : (es : List Transition) (place : ℕ) → place ≤ length es → AllPairs IsByEarlier es → AllWithin (λ e. e.letter < x.letter) es 0 place → AllWithin (λ e. x.letter < e.letter) es place (length es) → KeepsRow es (take place es ++ x ∷ drop place es) x.letter x.target
  KeepsRow-put es place within ascending before after = record {
    ascending = put_ascending es place within ascending before after;
    in_range = λ letters states small low range. put_all (λ e. (e.letter < letters) × (e.target < states)) es place (small, low) range;
  }

  pub IsTransitionSet-put : (es : List Transition) (place : ℕ) → place ≤ length es → AllWithin (λ e. e.letter < x.letter) es 0 place → IsTransitionSet es (take place es ++ x ∷ drop place es) x.letter x.target
  IsTransitionSet-put es place within before = record { there = put_there es place within before; elsewhere = put_elsewhere es place within }

-- where no transition is by the letter, those from its place on are by later ones
pub after_gap : (es : List Transition) (letter place : ℕ) → AllPairs IsByEarlier es → AllWithin (λ e. letter ≤ e.letter) es place (length es) → (place < length es → (d : Transition) → (get_or es place d).letter ≢ letter) → AllWithin (λ e. letter < e.letter) es place (length es)
after_gap es letter place ascending after gap k d low high = by (cases_lt place k)
  where
    first : (z : Transition) → letter < (get_or es place z).letter
    first z = let other = gap (omega arith) z in let more = after place z (omega arith) (omega arith) in omega (arith, other, more)

    by : (place < k) ⊎ (k ≤ place) → letter < (get_or es k d).letter
    by (inl less) = omega (arith, first d, ascending place k d less high)
    by (inr same) = let is : place ≡ k = omega arith in subst (λ n. letter < (get_or es n d).letter) is (first d)

-- a state whose transitions are set
module _ (d : Automaton) (q letter to : ℕ) (state : State) (within : q < states_of d) where
  abbrev changed : Automaton
  changed = record { sizes = d.sizes; states = set d.states q state }

  at_same : state_of changed q ≡ state
  at_same = get_or-set_same d.states q state no_state within

  at_other : (p : ℕ) → p ≢ q → state_of changed p ≡ state_of d p
  at_other p other = get_or-set_other d.states q p state no_state other

  pub IsSet-state : state.accepting ≡ accepting_of d q → IsTransitionSet (transitions_of d q) state.transitions letter to → IsSet d (record { sizes = d.sizes; states = set d.states q state }) q letter to
  IsSet-state accepting transitions = record {
    sizes = refl;
    states = length-set d.states q state;
    accepting = λ p. keeps p (cases_order p q);
    there = ap (λ (s : State). target_by s.transitions letter) at_same ∙ transitions.there;
    elsewhere = λ p a other. leads p a other (cases_order p q);
  }
    where
      keeps : (p : ℕ) → (p ≡ q) ⊎ ((p < q) ⊎ (q < p)) → accepting_of changed p ≡ accepting_of d p
      keeps p (inl is) = subst (λ n. accepting_of changed n ≡ accepting_of d n) (sym is) (ap (λ (s : State). s.accepting) at_same ∙ accepting)
      keeps p (inr (inl less)) = ap (λ (s : State). s.accepting) (at_other p (omega arith))
      keeps p (inr (inr more)) = ap (λ (s : State). s.accepting) (at_other p (omega arith))

      leads : (p a : ℕ) → ¬ ((p ≡ q) × (a ≡ letter)) → (p ≡ q) ⊎ ((p < q) ⊎ (q < p)) → step_of changed p a ≡ step_of d p a
      leads p a other (inl is) = subst (λ n. step_of changed n a ≡ step_of d n a) (sym is) (ap (λ (s : State). target_by s.transitions a) at_same ∙ transitions.elsewhere a (λ same. other (is, same)))
      leads p a other (inr (inl less)) = ap (λ (s : State). target_by s.transitions a) (at_other p (omega arith))
      leads p a other (inr (inr more)) = ap (λ (s : State). target_by s.transitions a) (at_other p (omega arith))

  pub IsPartTable-state : IsPartTable (letters_of d) d.states → letter < letters_of d → to < states_of d → KeepsRow (transitions_of d q) state.transitions letter to → IsPartTable (letters_of d) (set d.states q state)
  IsPartTable-state table small low keeps =
      let row = table.rows q no_state within in
      let kept : IsRow (letters_of d) (length d.states) state.transitions = record { in_range = keeps.in_range (letters_of d) (length d.states) small low row.in_range; ascending = keeps.ascending } in
      let size = length-set d.states q state in
      record {
        small = omega (arith, size, table.small);
        rows = subst (λ n. All (λ (s : State). IsRow (letters_of d) n s.transitions) (set d.states q state)) (sym size) (All-set (λ (s : State). IsRow (letters_of d) (length d.states) s.transitions) d.states q state kept table.rows);
      }

-- one more state
pub IsPartTable-push : (letters : ℕ) (states : List State) (accepting : Bool) → length states + 1 < 2 ^ 32 → IsPartTable letters states → IsPartTable letters (states ++ (record { accepting = accepting; transitions = [] }) ∷ [])
IsPartTable-push letters states accepting small table =
    let state : State = record { accepting = accepting; transitions = [] } in
    let size = length_push states state in
    record {
      small = omega (arith, size);
      rows = subst (λ n. All (λ (s : State). IsRow letters n s.transitions) (states ++ state ∷ [])) (sym size)
          (All-push (λ (s : State). IsRow letters (length states + 1) s.transitions) states state
          (All-weaker (λ (s : State). IsRow letters (length states) s.transitions) (λ s. IsRow letters (length states + 1) s.transitions)
          (λ s row. record { in_range = λ k d within. let range = row.in_range k d within in (range.0, omega (arith, range.1)); ascending = row.ascending }) states table.rows)
          (record { in_range = λ k d within. absurd (omega arith); ascending = λ i j d before within. absurd (omega arith) }));
    }
