-- Two canonical automata of one function to classes are equal.
use Rattle.std.proofs.Common.{◌≡◌, ℕ, ◌<◌, Bool, true, false, IsTrue, List, [], ◌∷◌, ◌++◌, length, get_or, Option, None, Some, ◌⊎◌, inl, inr, refl, sym, ap, ◌∙◌, subst, arith}
use Rattle.std.specs.List.{Contains}
use Rattle.std.specs.Option.{option_map_or, option_and_then}
use Rattle.std.proofs.lemmas.Bool.{cases_order}
use Rattle.std.proofs.lemmas.List.{ext_get_or, get_or_default}
use Rattle.std.proofs.lemmas.Option.{none-some, same_Some}
use Rattle.digit_tuple.specs.declared.transitions.Transition.{Transition}
use Rattle.digit_tuple.specs.Deterministic.{Automaton, State, no_state, letters_of, states_of, accepting_of, transitions_of, step_of, run_of}
use Rattle.digit_tuple.specs.Letters.{product, IsWord}
use Rattle.digit_tuple.specs.Shortlex.{IsBefore}
use Rattle.digit_tuple.proofs.DfaLemmas.{row_at}
use Rattle.digit_tuple.proofs.ShortlexLemmas.{IsBefore-trans, IsBefore-irreflexive}
use Rattle.digit_tuple.proofs.WordLemmas.{IsWord-append, IsWord-push, run_of-push}
use Rattle.residual_classes.specs.Classes.{class_of}
use Rattle.residual_classes.specs.ClassFunctions.{class_from, SameClassesFrom, SameClassFunction, HasNoClassFrom}
use Rattle.residual_classes.proofs.TransitionLemmas.{same_transitions}
use Rattle.residual_classes.proofs.ClassFromLemmas.{class_from-append}
use Rattle.minimise.specs.Canonical.{IsCanonicalWithClasses, CanonicalClassesAreEqual}
use Rattle.minimise.proofs.OrderLemmas.{same_in_order}
use Rattle.minimise.proofs.RunLemmas.{step_within, run_within}

module _ (d : Automaton) (classes : List ℕ) (canonical : IsCanonicalWithClasses d classes) where
  -- what a word of one letter or more leads to has a class for some word
  pub class_after_some : (w : List ℕ) (a p q : ℕ) → p < states_of d → IsWord (letters_of d) (a ∷ w) → run_of d p (a ∷ w) ≡ Some q → ¬ HasNoClassFrom d classes q
  class_after_some [] a p q within over leads = by (step_of d p a) refl leads
    where
      by : (o : Option ℕ) → step_of d p a ≡ o → option_and_then (λ r. Some r) o ≡ Some q → ¬ HasNoClassFrom d classes q
      by None is there = absurd (none-some q there)
      by (Some r) is there = canonical.live p a q within over.0 (is ∙ there)
  class_after_some (b ∷ w) a p q within over leads = by (step_of d p a) refl leads (λ r inside there. class_after_some w b r q inside over.1 there)
    where
      by : (o : Option ℕ) → step_of d p a ≡ o → option_and_then (λ r. run_of d r (b ∷ w)) o ≡ Some q → ((r : ℕ) → r < states_of d → run_of d r (b ∷ w) ≡ Some q → ¬ HasNoClassFrom d classes q) → ¬ HasNoClassFrom d classes q
      by None is there rest = absurd (none-some q there)
      by (Some r) is there rest = rest r (step_within d p a r canonical.table within is) there

  -- states with one function are one state
  pub one_class_state : (p q : ℕ) → p < states_of d → q < states_of d → SameClassesFrom d classes p d classes q → p ≡ q
  one_class_state p q small low same = by (cases_order p q)
    where
      by : (p ≡ q) ⊎ ((p < q) ⊎ (q < p)) → p ≡ q
      by (inl is) = is
      by (inr (inl less)) = absurd (canonical.distinct p q less low same)
      by (inr (inr more)) = absurd (canonical.distinct q p more small (λ w over. sym (same w over)))

same_option : (o r : Option ℕ) → ((p : ℕ) → o ≡ Some p → r ≡ Some p) → ((p : ℕ) → r ≡ Some p → o ≡ Some p) → o ≡ r
same_option None None over back = refl
same_option None (Some p) over back = back p refl
same_option (Some p) r over back = sym (over p refl)

same_flag : (b c : Bool) → (IsTrue b → IsTrue c) → (IsTrue c → IsTrue b) → b ≡ c
same_flag true c over back = sym (over refl)
same_flag false true over back = back refl
same_flag false false over back = refl

module _ (sizes : List ℕ) where
  abbrev on : List State → Automaton
  on states = record { sizes = sizes; states = states }

  -- the function is one
  abbrev Same : List State → List ℕ → List State → List ℕ → Type 0
  Same S cs T es = SameClassFunction (on S) cs (on T) es

  -- where a word leads in the one, it leads in the other, and to the same function
  twin : (S T : List State) (cs es : List ℕ) → IsCanonicalWithClasses (on S) cs → Same S cs T es → (w : List ℕ) (q : ℕ) → IsWord (product sizes) w → run_of (on S) 0 w ≡ Some q
      → (r : ℕ) × (run_of (on T) 0 w ≡ Some r) × SameClassesFrom (on S) cs q (on T) es r
  twin S T cs es canonical same w q over leads = by (run_of (on T) 0 w) refl
    where
      after : (v : List ℕ) → IsWord (product sizes) v → class_from (on S) cs q v ≡ option_map_or (λ p. class_from (on T) es p v) (run_of (on T) 0 w) 0
      after v inside = ap (λ (o : Option ℕ). option_map_or (λ p. class_from (on S) cs p v) o 0) (sym leads) ∙ sym (class_from-append (on S) cs 0 w v)
          ∙ same (w ++ v) (IsWord-append (product sizes) w v over inside) ∙ class_from-append (on T) es 0 w v

      lost : (u : List ℕ) → u ≡ w → run_of (on T) 0 w ≡ None → ¬ HasNoClassFrom (on S) cs q → (r : ℕ) × (run_of (on T) 0 w ≡ Some r) × SameClassesFrom (on S) cs q (on T) es r
      lost u is none live = absurd (live (λ v inside. after v inside ∙ ap (λ (o : Option ℕ). option_map_or (λ p. class_from (on T) es p v) o 0) none))

      none : (u : List ℕ) → u ≡ w → run_of (on T) 0 w ≡ None → (r : ℕ) × (run_of (on T) 0 w ≡ Some r) × SameClassesFrom (on S) cs q (on T) es r
      none [] is there = absurd (none-some 0 (sym there ∙ ap (λ v. run_of (on T) 0 v) (sym is)))
      none (a ∷ u) is there = lost (a ∷ u) is there (class_after_some (on S) cs canonical u a 0 q canonical.table.initial (subst (IsWord (product sizes)) (sym is) over) (ap (λ v. run_of (on S) 0 v) is ∙ leads))

      by : (o : Option ℕ) → run_of (on T) 0 w ≡ o → (r : ℕ) × (run_of (on T) 0 w ≡ Some r) × SameClassesFrom (on S) cs q (on T) es r
      by None there = none w refl there
      by (Some r) there = (r, there, λ v inside. after v inside ∙ ap (λ (o : Option ℕ). option_map_or (λ p. class_from (on T) es p v) o 0) there)

  -- a first word of the one is a first word of the other, and leads to the same function
  first_to : (S T : List State) (cs es : List ℕ) (s : IsCanonicalWithClasses (on S) cs) (t : IsCanonicalWithClasses (on T) es) → Same S cs T es → (q : ℕ) → q < length S
      → (r : ℕ) × (r < length T) × (get_or s.firsts q [] ≡ get_or t.firsts r []) × SameClassesFrom (on S) cs q (on T) es r
  first_to S T cs es s t same q within = (there.0, inside, words, there.2)
    where
      over : IsWord (product sizes) (get_or s.firsts q [])
      over = s.numbered.over q within

      there : (r : ℕ) × (run_of (on T) 0 (get_or s.firsts q []) ≡ Some r) × SameClassesFrom (on S) cs q (on T) es r
      there = twin S T cs es s same (get_or s.firsts q []) q over (s.numbered.lead q within)

      inside : there.0 < length T
      inside = run_within (on T) (get_or s.firsts q []) 0 there.0 t.table t.table.initial there.1

      back : (p : ℕ) × (run_of (on S) 0 (get_or t.firsts there.0 []) ≡ Some p) × SameClassesFrom (on T) es there.0 (on S) cs p
      back = twin T S es cs t (λ w is. sym (same w is)) (get_or t.firsts there.0 []) there.0 (t.numbered.over there.0 inside) (t.numbered.lead there.0 inside)

      itself : q ≡ back.0
      itself = one_class_state (on S) cs s q back.0 within (run_within (on S) (get_or t.firsts there.0 []) 0 back.0 s.table s.table.initial back.1) (λ w is. there.2 w is ∙ back.2 w is)

      words : get_or s.firsts q [] ≡ get_or t.firsts there.0 []
      words = by (s.numbered.least q (get_or t.firsts there.0 []) (t.numbered.over there.0 inside) (back.1 ∙ ap Some (sym itself))) (t.numbered.least there.0 (get_or s.firsts q []) over there.1)
        where
          by : (get_or s.firsts q [] ≡ get_or t.firsts there.0 []) ⊎ IsBefore (get_or s.firsts q []) (get_or t.firsts there.0 [])
              → (get_or t.firsts there.0 [] ≡ get_or s.firsts q []) ⊎ IsBefore (get_or t.firsts there.0 []) (get_or s.firsts q []) → get_or s.firsts q [] ≡ get_or t.firsts there.0 []
          by (inl is) other = is
          by (inr less) (inl is) = sym is
          by (inr less) (inr more) = absurd (IsBefore-irreflexive (get_or s.firsts q []) (IsBefore-trans (get_or s.firsts q []) (get_or t.firsts there.0 []) (get_or s.firsts q []) less more))

  among : (S T : List State) (cs es : List ℕ) (s : IsCanonicalWithClasses (on S) cs) (t : IsCanonicalWithClasses (on T) es) → Same S cs T es → (w : List ℕ) → Contains s.firsts w → Contains t.firsts w
  among S T cs es s t same w found =
      let there = first_to S T cs es s t same found.0 (omega (arith, found.1, s.numbered.count)) in
      let inside : there.0 < length t.firsts = omega (arith, there.1, t.numbered.count) in
      (there.0, inside, get_or_default t.firsts there.0 w [] inside ∙ sym there.2 ∙ get_or_default s.firsts found.0 [] w found.1 ∙ found.2)

  same_firsts : (S T : List State) (cs es : List ℕ) (s : IsCanonicalWithClasses (on S) cs) (t : IsCanonicalWithClasses (on T) es) → Same S cs T es → s.firsts ≡ t.firsts
  same_firsts S T cs es s t same = same_in_order IsBefore (λ x y less more. IsBefore-irreflexive x (IsBefore-trans x y x less more)) s.firsts t.firsts s.numbered.ordered t.numbered.ordered
      (among S T cs es s t same) (among T S es cs t s (λ w is. sym (same w is)))

  same_count : (S T : List State) (cs es : List ℕ) → IsCanonicalWithClasses (on S) cs → IsCanonicalWithClasses (on T) es → Same S cs T es → length S ≡ length T
  same_count S T cs es s t same = omega (arith, s.numbered.count, t.numbered.count, ap length (same_firsts S T cs es s t same))

  -- states of one number have one function
  same_function : (S T : List State) (cs es : List ℕ) → IsCanonicalWithClasses (on S) cs → IsCanonicalWithClasses (on T) es → Same S cs T es → (q : ℕ) → q < length S → SameClassesFrom (on S) cs q (on T) es q
  same_function S T cs es s t same q within =
      let there = twin S T cs es s same (get_or s.firsts q []) q (s.numbered.over q within) (s.numbered.lead q within) in
      let lead = t.numbered.lead q (omega (arith, within, same_count S T cs es s t same)) in
      let word : get_or s.firsts q [] ≡ get_or t.firsts q [] = ap (λ (ws : List (List ℕ)). get_or ws q []) (same_firsts S T cs es s t same) in
      let at : Some there.0 ≡ Some q = sym there.1 ∙ ap (λ w. run_of (on T) 0 w) word ∙ lead in
      subst (λ r. SameClassesFrom (on S) cs q (on T) es r) (same_Some there.0 q at) there.2

  -- a letter leads to one number
  step_to : (S T : List State) (cs es : List ℕ) → IsCanonicalWithClasses (on S) cs → IsCanonicalWithClasses (on T) es → Same S cs T es → (q a p : ℕ) → q < length S → a < product sizes → step_of (on S) q a ≡ Some p → step_of (on T) q a ≡ Some p
  step_to S T cs es s t same q a p within small leads =
      let word : get_or s.firsts q [] ≡ get_or t.firsts q [] = ap (λ (ws : List (List ℕ)). get_or ws q []) (same_firsts S T cs es s t same) in
      let count = same_count S T cs es s t same in
      let over = IsWord-push (product sizes) (get_or s.firsts q []) a (s.numbered.over q within) small in
      let there = twin S T cs es s same (get_or s.firsts q [] ++ a ∷ []) p over (run_of-push (on S) 0 q (get_or s.firsts q []) a (s.numbered.lead q within) ∙ leads) in
      let lead : run_of (on T) 0 (get_or s.firsts q []) ≡ Some q = ap (λ w. run_of (on T) 0 w) word ∙ t.numbered.lead q (omega (arith, within, count)) in
      let next : step_of (on T) q a ≡ Some there.0 = sym (run_of-push (on T) 0 q (get_or s.firsts q []) a lead) ∙ there.1 in
      let low : p < length S = step_within (on S) q a p s.table within leads in
      let function = same_function S T cs es s t same p low in
      let is : there.0 ≡ p = one_class_state (on T) es t there.0 p (step_within (on T) q a there.0 t.table (omega (arith, within, count)) next) (omega (arith, low, count)) (λ w inside. sym (there.2 w inside) ∙ function w inside) in
      next ∙ ap Some is

  same_state : (S T : List State) (cs es : List ℕ) → IsCanonicalWithClasses (on S) cs → IsCanonicalWithClasses (on T) es → Same S cs T es → (q : ℕ) → q < length S → get_or S q no_state ≡ get_or T q no_state
  same_state S T cs es s t same q within =
      let count = same_count S T cs es s t same in
      let inside : q < length T = omega (arith, within, count) in
      let one = row_at (on S) q s.table within in
      let two = row_at (on T) q t.table inside in
      let class : class_of cs q ≡ class_of es q = same_function S T cs es s t same q within [] tt in
      let accepting : accepting_of (on S) q ≡ accepting_of (on T) q = same_flag (accepting_of (on S) q) (accepting_of (on T) q)
      (λ yes. (t.accepting q inside).1 (λ none. (s.accepting q within).0 yes (class ∙ none))) (λ yes. (s.accepting q within).1 (λ none. (t.accepting q inside).0 yes (sym class ∙ none))) in
      let transitions : transitions_of (on S) q ≡ transitions_of (on T) q = same_transitions (product sizes) (transitions_of (on S) q) (transitions_of (on T) q) one.ascending two.ascending (λ k d there. (one.in_range k d there).0) (λ k d there. (two.in_range k d there).0)
      (λ a small. same_option (step_of (on S) q a) (step_of (on T) q a) (λ p. step_to S T cs es s t same q a p within small) (λ p. step_to T S es cs t s (λ w is. sym (same w is)) q a p inside small)) in
      ap (λ (b : Bool). let x : State = record { accepting = b; transitions = transitions_of (on S) q } in x) accepting ∙ ap (λ (es : List Transition). let x : State = record { accepting = accepting_of (on T) q; transitions = es } in x) transitions

  same_automaton : (S T : List State) (cs es : List ℕ) → IsCanonicalWithClasses (on S) cs → IsCanonicalWithClasses (on T) es → Same S cs T es → (on S ≡ on T) × (cs ≡ es)
  same_automaton S T cs es s t same = (
    ap on (ext_get_or no_state S T (same_count S T cs es s t same) (same_state S T cs es s t same)),
    ext_get_or 0 cs es (s.count ∙ same_count S T cs es s t same ∙ sym t.count) (λ q within. same_function S T cs es s t same q (omega (arith, within, s.count)) [] tt),
  )

pub canonical_classes_are_equal : CanonicalClassesAreEqual
canonical_classes_are_equal d e classes others canonical other sizes same =
    let both = same_automaton d.sizes d.states e.states classes others canonical
    (subst (λ (ns : List ℕ). IsCanonicalWithClasses (let x : Automaton = record { sizes = ns; states = e.states } in x) others) (sym sizes) other)
    (subst (λ (ns : List ℕ). SameClassFunction d classes (let x : Automaton = record { sizes = ns; states = e.states } in x) others) (sym sizes) same) in
    (both.0 ∙ ap (λ (ns : List ℕ). let x : Automaton = record { sizes = ns; states = e.states } in x) sizes, both.1)
