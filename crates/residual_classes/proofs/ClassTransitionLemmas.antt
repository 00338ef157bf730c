-- The transitions of states between classes.
use Rattle.std.proofs.Common.{◌≡◌, ◌≢◌, ◌==◌, ℕ, suc, ◌+◌, ◌<◌, Bool, true, false, List, [], ◌∷◌, ◌++◌, take, length, get_or, Option, None, Some, unwrap_or, if◌then◌else◌, ◌⊎◌, inl, inr, refl, sym, ap, ◌∙◌, eq-eqb, arith}
use Rattle.std.specs.List.{All, AllPairs}
use Rattle.std.proofs.lemmas.Bool.{cases_eq, eqb-true, ne_eqb}
use Rattle.std.proofs.lemmas.List.{take_more, append-nil}
use Rattle.std.proofs.lemmas.List.Elements.{All-cons}
use Rattle.std.proofs.lemmas.List.Kept.{AllPairs-cons}
use Rattle.std.proofs.lemmas.Option.{none-some, same_Some}
use Rattle.digit_tuple.specs.declared.transitions.Transition.{Transition}
use Rattle.digit_tuple.specs.Deterministic.{Automaton, IsTable, IsByEarlier, letters_of, states_of, transitions_of, target_by}
use Rattle.digit_tuple.proofs.DfaLemmas.{target_by-other, target_by-first}
use Rattle.residual_classes.specs.Classes.{class_of, next_of, dead_class, live_class}
use Rattle.residual_classes.specs.ClassTransitions.{class_transitions}
use Rattle.residual_classes.specs.Alike.{AreAlike}
use Rattle.residual_classes.proofs.TransitionLemmas.{rest_pairs, target_by-early, same_transitions}
use Rattle.residual_classes.proofs.SinkLemmas.{row_of}

-- the transition of the class that a transition leads to
abbrev pub class_transition : List ℕ → Transition → Transition
class_transition classes e = record { letter = e.letter; target = class_of classes e.target }

-- a transition after the others
pub class_transitions-push : (classes : List ℕ) (dead : ℕ) (es : List Transition) (e : Transition) → class_transitions classes dead (es ++ e ∷ []) ≡ class_transitions classes dead es ++ class_transitions classes dead (e ∷ [])
class_transitions-push classes dead [] e = refl
class_transitions-push classes dead (f ∷ es) e = by (class_of classes f.target == dead) (class_transitions-push classes dead es e)
  where
    by : (b : Bool) → class_transitions classes dead (es ++ e ∷ []) ≡ class_transitions classes dead es ++ class_transitions classes dead (e ∷ [])
        → (if b then class_transitions classes dead (es ++ e ∷ []) else class_transition classes f ∷ class_transitions classes dead (es ++ e ∷ []))
        ≡ (if b then class_transitions classes dead es else class_transition classes f ∷ class_transitions classes dead es) ++ class_transitions classes dead (e ∷ [])
    by true rest = rest
    by false rest = ap (λ (fs : List Transition). class_transition classes f ∷ fs) rest

-- the next transition of a row
module _ (classes : List ℕ) (dead : ℕ) (es : List Transition) (k : ℕ) (z : Transition) (within : k < length es) where
  prefix : take (k + 1) es ≡ take k es ++ get_or es k z ∷ []
  prefix = take_more es k z within

  pub class_transitions-dead : class_of classes (get_or es k z).target ≡ dead → class_transitions classes dead (take k es) ≡ class_transitions classes dead (take (k + 1) es)
  class_transitions-dead is = sym (ap (class_transitions classes dead) prefix ∙ class_transitions-push classes dead (take k es) (get_or es k z)
      ∙ ap (λ (b : Bool). class_transitions classes dead (take k es) ++ (if b then [] else class_transition classes (get_or es k z) ∷ [])) (eq-eqb (class_of classes (get_or es k z).target) dead is)
      ∙ append-nil (class_transitions classes dead (take k es)))

  pub class_transitions-live : class_of classes (get_or es k z).target ≢ dead → class_transitions classes dead (take k es) ++ class_transition classes (get_or es k z) ∷ [] ≡ class_transitions classes dead (take (k + 1) es)
  class_transitions-live other = sym (ap (class_transitions classes dead) prefix ∙ class_transitions-push classes dead (take k es) (get_or es k z)
      ∙ ap (λ (b : Bool). class_transitions classes dead (take k es) ++ (if b then [] else class_transition classes (get_or es k z) ∷ [])) (ne_eqb (class_of classes (get_or es k z).target) dead other))

-- rows by the same letters to the same classes have the same transitions to classes
pub class_transitions-same : (classes : List ℕ) (dead : ℕ) (es fs : List Transition) → length es ≡ length fs
    → ((k : ℕ) → k < length es → ((get_or es k (record { letter = 0; target = 0 })).letter ≡ (get_or fs k (record { letter = 0; target = 0 })).letter) × (class_of classes (get_or es k (record { letter = 0; target = 0 })).target ≡ class_of classes (get_or fs k (record { letter = 0; target = 0 })).target))
    → class_transitions classes dead es ≡ class_transitions classes dead fs
class_transitions-same classes dead [] [] long same = refl
class_transitions-same classes dead [] (f ∷ fs) long same = absurd (omega (arith, long))
class_transitions-same classes dead (e ∷ es) [] long same = absurd (omega (arith, long))
class_transitions-same classes dead (e ∷ es) (f ∷ fs) long same =
    let rest : class_transitions classes dead es ≡ class_transitions classes dead fs = class_transitions-same classes dead es fs (omega (arith, long)) (λ k within. same (suc k) (omega (arith, within))) in
    let head = same 0 (omega arith) in
    ap (λ (c : ℕ). let g : Transition = record { letter = e.letter; target = c } in if c == dead then class_transitions classes dead es else g ∷ class_transitions classes dead es) head.1
    ∙ ap (λ (x : ℕ). let g : Transition = record { letter = x; target = class_of classes f.target } in if class_of classes f.target == dead then class_transitions classes dead es else g ∷ class_transitions classes dead es) head.0
    ∙ ap (λ (xs : List Transition). if class_of classes f.target == dead then xs else class_transition classes f ∷ xs) rest

-- what holds of the letters still holds
pub class_transitions-all : (classes : List ℕ) (dead : ℕ) (P : ℕ → Type 0) (es : List Transition) → All (λ e. P e.letter) es → All (λ e. P e.letter) (class_transitions classes dead es)
class_transitions-all classes dead P [] all = all
class_transitions-all classes dead P (e ∷ es) all = by (class_of classes e.target == dead) (class_transitions-all classes dead P es (λ k z within. all (suc k) z (omega arith)))
  where
    by : (b : Bool) → All (λ e. P e.letter) (class_transitions classes dead es) → All (λ e. P e.letter) (if b then class_transitions classes dead es else class_transition classes e ∷ class_transitions classes dead es)
    by true rest = rest
    by false rest = All-cons (λ (e : Transition). P e.letter) (class_transition classes e) (class_transitions classes dead es) (all 0 e (omega arith)) rest

pub class_transitions-pairs : (classes : List ℕ) (dead : ℕ) (es : List Transition) → AllPairs IsByEarlier es → AllPairs IsByEarlier (class_transitions classes dead es)
class_transitions-pairs classes dead [] pairs = pairs
class_transitions-pairs classes dead (e ∷ es) pairs = by (class_of classes e.target == dead) (class_transitions-pairs classes dead es (rest_pairs e es pairs))
  where
    by : (b : Bool) → AllPairs IsByEarlier (class_transitions classes dead es) → AllPairs IsByEarlier (if b then class_transitions classes dead es else class_transition classes e ∷ class_transitions classes dead es)
    by true rest = rest
    by false rest = AllPairs-cons IsByEarlier (class_transition classes e) (class_transitions classes dead es)
        (class_transitions-all classes dead (λ a. e.letter < a) es (λ k z within. pairs 0 (suc k) z (omega arith) (omega arith))) rest

module _ (d : Automaton) (classes : List ℕ) where
  sink_not_live : live_class d classes (states_of d) ≡ None
  sink_not_live = ap (λ (b : Bool). if b then None else Some (dead_class d classes)) (eq-eqb (dead_class d classes) (dead_class d classes) refl)

  abbrev left : List Transition → List Transition
  left es = class_transitions classes (dead_class d classes) es

  -- the transitions lead to the classes that are not dead
  pub class_transitions-lead : (es : List Transition) (a : ℕ) → AllPairs IsByEarlier es → target_by (class_transitions classes (dead_class d classes) es) a ≡ live_class d classes (unwrap_or (target_by es a) (states_of d))
  class_transitions-lead [] a pairs = sym sink_not_live
  class_transitions-lead (e ∷ es) a pairs = by (cases_eq e.letter a) (class_transitions-lead es a (rest_pairs e es pairs))
    where
      first : e.letter ≡ a → target_by (left es) a ≡ live_class d classes (unwrap_or (target_by es a) (states_of d)) → (b : Bool)
          → target_by (if b then (left es) else class_transition classes e ∷ (left es)) a ≡ (if b then None else Some (class_of classes e.target))
      first is rest true = rest ∙ ap (λ (o : Option ℕ). live_class d classes (unwrap_or o (states_of d))) (target_by-early e es a pairs (omega arith)) ∙ sink_not_live
      first is rest false = target_by-first (class_transition classes e) (left es) a is

      other : e.letter ≢ a → target_by (left es) a ≡ live_class d classes (unwrap_or (target_by es a) (states_of d)) → (b : Bool)
          → target_by (if b then (left es) else class_transition classes e ∷ (left es)) a ≡ live_class d classes (unwrap_or (target_by es a) (states_of d))
      other differs rest true = rest
      other differs rest false = target_by-other (class_transition classes e) (left es) a differs ∙ rest

      by : (e.letter ≡ a) ⊎ (e.letter ≡ a → ⊥) → target_by (left es) a ≡ live_class d classes (unwrap_or (target_by es a) (states_of d))
          → target_by (class_transitions classes (dead_class d classes) (e ∷ es)) a ≡ live_class d classes (unwrap_or (target_by (e ∷ es) a) (states_of d))
      by (inl is) rest = first is rest (class_of classes e.target == dead_class d classes) ∙ ap (λ (o : Option ℕ). live_class d classes (unwrap_or o (states_of d))) (sym (target_by-first e es a is))
      by (inr differs) rest = other differs rest (class_of classes e.target == dead_class d classes) ∙ ap (λ (o : Option ℕ). live_class d classes (unwrap_or o (states_of d))) (sym (target_by-other e es a differs))

  -- the live class determines the class
  pub live_class-injective : (p q : ℕ) → live_class d classes p ≡ live_class d classes q → class_of classes p ≡ class_of classes q
  live_class-injective p q = by (class_of classes p == dead_class d classes) refl (class_of classes q == dead_class d classes) refl
    where
      by : (b : Bool) → (class_of classes p == dead_class d classes) ≡ b → (c : Bool) → (class_of classes q == dead_class d classes) ≡ c
          → (if b then None else Some (class_of classes p)) ≡ (if c then None else Some (class_of classes q)) → class_of classes p ≡ class_of classes q
      by true one true two same = eqb-true (class_of classes p) (dead_class d classes) one ∙ sym (eqb-true (class_of classes q) (dead_class d classes) two)
      by true one false two same = absurd (none-some (class_of classes q) same)
      by false one true two same = absurd (none-some (class_of classes p) (sym same))
      by false one false two same = same_Some (class_of classes p) (class_of classes q) same

  module _ (table : IsTable (letters_of d) d.states) where
    abbrev transitions_at : ℕ → List Transition
    transitions_at q = class_transitions classes (dead_class d classes) (transitions_of d q)

    leads_at : (q a : ℕ) → target_by (transitions_at q) a ≡ live_class d classes (next_of d q a)
    leads_at q a = class_transitions-lead (transitions_of d q) a (row_of d table q).ascending

    -- states of one class with one row are alike
    pub alike_from_rows : (p q : ℕ) → class_of classes p ≡ class_of classes q → transitions_at p ≡ transitions_at q → AreAlike d classes p q
    alike_from_rows p q own transitions = record {
      own = own;
      next = λ a small. live_class-injective (next_of d p a) (next_of d q a) (sym (leads_at p a) ∙ ap (λ (es : List Transition). target_by es a) transitions ∙ leads_at q a);
    }

    -- states that are alike have one row
    pub rows_from_alike : (p q : ℕ) → AreAlike d classes p q → transitions_at p ≡ transitions_at q
    rows_from_alike p q alike =
        let small = λ (x : ℕ). class_transitions-all classes (dead_class d classes) (λ a. a < letters_of d) (transitions_of d x) (λ k z within. ((row_of d table x).in_range k z within).0) in
        let pairs = λ (x : ℕ). class_transitions-pairs classes (dead_class d classes) (transitions_of d x) (row_of d table x).ascending in
        same_transitions (letters_of d) (transitions_at p) (transitions_at q) (pairs p) (pairs q) (small p) (small q)
        (λ a inside. leads_at p a ∙ ap (λ (c : ℕ). if c == dead_class d classes then None else Some c) (alike.next a inside) ∙ sym (leads_at q a))
