-- Where words lead in a canonical automaton with classes: to one state if and only if one function is left after them.
use Rattle.std.proofs.Common.{◌≡◌, ◌==◌, ℕ, ◌<◌, ◌≤◌, Bool, true, false, not, ◌&&◌, ◌↔◌, List, [], ◌∷◌, ◌++◌, length, get_or, Option, Some, ◌⊎◌, inl, inr, refl, sym, ap, ◌∙◌, subst, arith, if◌then◌else◌}
use Rattle.std.specs.Option.{option_map_or, option_and_then}
use Rattle.std.proofs.lemmas.Bool.{cases_eq, cases_lt}
use Rattle.std.proofs.lemmas.Bool.Decides.{Decides-eqb}
use Rattle.std.proofs.lemmas.List.{nil_from_length, get_or_default}
use Rattle.digit_tuple.specs.declared.transitions.Transition.{Transition}
use Rattle.digit_tuple.specs.Letters.{IsWord}
use Rattle.digit_tuple.specs.Width.{HasApart}
use Rattle.digit_tuple.specs.Deterministic.{Automaton, letters_of, states_of, accepting_of, transitions_of, step_of, target_by, run_of, accepts_from}
use Rattle.residual_classes.specs.Classes.{class_of, next_of, first_of}
use Rattle.residual_classes.specs.ClassFunctions.{class_from, class_after, SameClassesFrom, SameClassAfter}
use Rattle.residual_classes.proofs.SinkLemmas.{not_accepting_past, accepts_from-next}
use Rattle.residual_classes.proofs.ClassFromLemmas.{class_from-append, class_from-next, class_from-sink, no_class_past}
use Rattle.minimise.specs.Residuals.{IsDead}
use Rattle.minimise.specs.Canonical.{IsCanonicalWithClasses}
use Rattle.minimise.proofs.ClassFormLemmas.{one_class_state}
use Rattle.minimise.proofs.PlaceLemmas.{lead, IsPlace, first_is_place, lead_is_place}

module _ (d : Automaton) (classes : List ℕ) (count : length classes ≡ states_of d) where
  -- what follows a word has the class that it has from where the word leads
  pub class_from-lead : (w u : List ℕ) (q : ℕ) → class_from d classes q (w ++ u) ≡ class_from d classes (lead d q w) u
  class_from-lead [] u q = refl
  class_from-lead (a ∷ w) u q = class_from-next d classes count q a (w ++ u) ∙ class_from-lead w u (next_of d q a)

  pub class_of-lead : (w : List ℕ) (q : ℕ) → class_from d classes q w ≡ class_of classes (lead d q w)
  class_of-lead [] q = refl
  class_of-lead (a ∷ w) q = class_from-next d classes count q a w ∙ class_of-lead w (next_of d q a)

module _ (d : Automaton) (classes : List ℕ) (canonical : IsCanonicalWithClasses d classes) where
  -- a state that refuses has no class
  refuses-none : (q : ℕ) → accepting_of d q ≡ false → class_of classes q ≡ 0
  refuses-none q refuses = by (cases_lt q (states_of d)) (cases_eq (class_of classes q) 0)
    where
      by : (q < states_of d) ⊎ (states_of d ≤ q) → (class_of classes q ≡ 0) ⊎ (class_of classes q ≡ 0 → ⊥) → class_of classes q ≡ 0
      by cases (inl none) = none
      by (inl within) (inr some) = absurd (let yes : accepting_of d q ≡ true = (canonical.accepting q within).1 some in cc)
      by (inr past) (inr some) = no_class_past d classes canonical.count q past

  none-refuses : (q : ℕ) → class_of classes q ≡ 0 → accepting_of d q ≡ false
  none-refuses q none = by (cases_lt q (states_of d)) (accepting_of d q) refl
    where
      by : (q < states_of d) ⊎ (states_of d ≤ q) → (b : Bool) → accepting_of d q ≡ b → b ≡ false
      by cases false is = refl
      by (inl within) true is = absurd ((canonical.accepting q within).0 is none)
      by (inr past) true is = sym is ∙ not_accepting_past d q past

  pub refused-no_class : (w : List ℕ) (q : ℕ) → accepts_from d q w ≡ false → class_from d classes q w ≡ 0
  refused-no_class [] q refuses = refuses-none q refuses
  refused-no_class (a ∷ w) q refuses = class_from-next d classes canonical.count q a w ∙ refused-no_class w (next_of d q a) (sym (accepts_from-next d q a w) ∙ refuses)

  pub no_class-refused : (w : List ℕ) (q : ℕ) → class_from d classes q w ≡ 0 → accepts_from d q w ≡ false
  no_class-refused [] q none = none-refuses q none
  no_class-refused (a ∷ w) q none = accepts_from-next d q a w ∙ no_class-refused w (next_of d q a) (sym (class_from-next d classes canonical.count q a w) ∙ none)

  live_states : (p a q : ℕ) → p < states_of d → a < letters_of d → step_of d p a ≡ Some q → ¬ IsDead d q
  live_states p a q within small leads dead = canonical.live p a q within small leads (λ w over. refused-no_class w q (dead w over))

  pub first_class_place : IsPlace d (first_of d)
  first_class_place = first_is_place d canonical.table live_states

  pub class_place : (w : List ℕ) → IsWord (letters_of d) w → IsPlace d (lead d (first_of d) w)
  class_place w over = lead_is_place d canonical.table live_states w (first_of d) first_class_place over

  bare : accepting_of d 0 ≡ false → transitions_of d 0 ≡ [] → (w : List ℕ) → class_from d classes 0 w ≡ 0
  bare refuses empty [] = refuses-none 0 refuses
  bare refuses empty (a ∷ w) = ap (λ (es : List Transition). option_map_or (λ p. class_of classes p) (option_and_then (λ p. run_of d p w) (target_by es a)) 0) empty

  -- from the initial state words have their classes
  pub class_after-first : (w : List ℕ) → class_from d classes (first_of d) w ≡ class_after d classes w
  class_after-first w = by (accepting_of d 0) (length (transitions_of d 0) == 0) refl refl
    where
      by : (b z : Bool) → accepting_of d 0 ≡ b → (length (transitions_of d 0) == 0) ≡ z → class_from d classes (if not b && z then states_of d else 0) w ≡ class_from d classes 0 w
      by true z is none = refl
      by false true is none = class_from-sink d classes canonical.count w ∙ sym (bare is (nil_from_length (transitions_of d 0) ((Decides-eqb (length (transitions_of d 0)) 0).0 none)) w)
      by false false is some = refl

  after_first : (w u : List ℕ) → class_after d classes (w ++ u) ≡ class_from d classes (lead d (first_of d) w) u
  after_first w u = sym (class_after-first (w ++ u)) ∙ class_from-lead d classes canonical.count w u (first_of d)

  -- a word has the class of where it leads
  pub class_after-lead : (w : List ℕ) → class_after d classes w ≡ class_of classes (lead d (first_of d) w)
  class_after-lead w = sym (class_after-first w) ∙ class_of-lead d classes canonical.count w (first_of d)

  -- places with one function are one
  one_class_place : (p q : ℕ) → IsPlace d p → IsPlace d q → SameClassesFrom d classes p d classes q → p ≡ q
  one_class_place p q (inl ps) (inl qs) same = ps ∙ sym qs
  one_class_place p q (inl ps) (inr ql) same = absurd (ql.1 (λ w over. no_class-refused w q (sym (same w over) ∙ ap (λ n. class_from d classes n w) ps ∙ class_from-sink d classes canonical.count w)))
  one_class_place p q (inr pl) (inl qs) same = absurd (pl.1 (λ w over. no_class-refused w p (same w over ∙ ap (λ n. class_from d classes n w) qs ∙ class_from-sink d classes canonical.count w)))
  one_class_place p q (inr pl) (inr ql) same = one_class_state d classes canonical p q pl.0 ql.0 same

  -- two words have one function after them if and only if they lead to one state or both to the sink
  pub SameClassAfter-lead : (w v : List ℕ) → IsWord (letters_of d) w → IsWord (letters_of d) v → SameClassAfter d classes w v ↔ (lead d (first_of d) w ≡ lead d (first_of d) v)
  SameClassAfter-lead w v over there = (
    (λ same. one_class_place (lead d (first_of d) w) (lead d (first_of d) v) (class_place w over) (class_place v there) (λ u inside. sym (after_first w u) ∙ same u inside ∙ after_first v u)),
    (λ same u inside. after_first w u ∙ ap (λ q. class_from d classes q u) same ∙ sym (after_first v u)),
  )

  -- the first words of the states are apart by each relation that the function keeps
  pub canonical_classes_apart : (R : List ℕ → List ℕ → Type 0)
      → ((w v u : List ℕ) → IsWord (letters_of d) w → IsWord (letters_of d) v → IsWord (letters_of d) u → R w v → class_after d classes (w ++ u) ≡ class_after d classes (v ++ u))
      → HasApart R (letters_of d) (states_of d)
  canonical_classes_apart R kept = record {
    words = canonical.firsts;
    count = canonical.numbered.count;
    over = λ q x within. subst (IsWord (letters_of d)) (get_or_default canonical.firsts q [] x within) (canonical.numbered.over q (omega (arith, canonical.numbered.count)));
    apart = λ i j x before within alike.
        let first : get_or canonical.firsts i [] ≡ get_or canonical.firsts i x = get_or_default canonical.firsts i [] x (omega arith) in
        let second : get_or canonical.firsts j [] ≡ get_or canonical.firsts j x = get_or_default canonical.firsts j [] x within in
        same i j before (omega (arith, canonical.numbered.count)) (subst (λ w. R w (get_or canonical.firsts j [])) (sym first) (subst (R (get_or canonical.firsts i x)) (sym second) alike));
  }
    where
      from_first : (q : ℕ) (u : List ℕ) → q < states_of d → class_after d classes (get_or canonical.firsts q [] ++ u) ≡ class_from d classes q u
      from_first q u within =
          class_from-append d classes 0 (get_or canonical.firsts q []) u ∙ ap (λ (o : Option ℕ). option_map_or (λ p. class_from d classes p u) o 0) (canonical.numbered.lead q within)

      same : (i j : ℕ) → i < j → j < states_of d → R (get_or canonical.firsts i []) (get_or canonical.firsts j []) → ⊥
      same i j before within alike = canonical.distinct i j before within
          (λ u over. sym (from_first i u (omega arith)) ∙ kept (get_or canonical.firsts i []) (get_or canonical.firsts j []) u (canonical.numbered.over i (omega arith)) (canonical.numbered.over j within) over alike ∙ from_first j u within)
