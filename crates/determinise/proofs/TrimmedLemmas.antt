-- States of a deterministic automaton as keys.
use Rattle.std.proofs.Common.{◌≡◌, ◌==◌, ℕ, Bool, true, false, if◌then◌else◌, List, [], ◌∷◌, map, length, Option, None, Some, refl, ap, arith}
use Rattle.std.specs.Option.{option_map, option_map_or}
use Rattle.std.proofs.lemmas.List.{get_or-map, length-map}
use Rattle.digit_tuple.specs.declared.transitions.Transition.{Transition}
use Rattle.digit_tuple.specs.Deterministic.{Automaton, IsRow, target_by, step_of, accepts_from}
use Rattle.digit_tuple.specs.Keys.{KeyTransition, AreKeyTransitions, key_by, key_accepts}
use Rattle.determinise.specs.Trimmed.{state_after, state_accepts}

-- the key transition of a transition
abbrev pub key_transition_of : Transition → KeyTransition
key_transition_of e = record { letter = e.letter; key = e.target ∷ [] }

key_by-transitions : (es : List Transition) (a : ℕ) → key_by (map key_transition_of es) a ≡ option_map (λ q. q ∷ []) (target_by es a)
key_by-transitions [] a = refl
key_by-transitions (e ∷ es) a = by (e.letter == a) (key_by-transitions es a)
  where
    by : (b : Bool) → key_by (map key_transition_of es) a ≡ option_map (λ q. q ∷ []) (target_by es a)
        → (if b then Some (e.target ∷ []) else key_by (map key_transition_of es) a) ≡ option_map (λ q. q ∷ []) (if b then Some e.target else target_by es a)
    by true rest = refl
    by false rest = rest

pub AreKeyTransitions-transitions : (letters states : ℕ) (es : List Transition) → IsRow letters states es → AreKeyTransitions letters (λ a. option_map (λ q. q ∷ []) (target_by es a)) (map key_transition_of es)
AreKeyTransitions-transitions letters states es row = record {
  in_range = λ k d within. let e = get_or-map key_transition_of es k z d (omega (arith, size)) in omega (arith, ap (λ (s : KeyTransition). s.letter) e, (row.in_range k z (omega (arith, size))).0);
  ascending = λ i j d before within.
      let e = get_or-map key_transition_of es i z d (omega (arith, size)) in
      let f = get_or-map key_transition_of es j z d (omega (arith, size)) in
      let less = row.ascending i j z before (omega (arith, size)) in
      omega (arith, less, ap (λ (s : KeyTransition). s.letter) e, ap (λ (s : KeyTransition). s.letter) f);
  lead = λ a small. key_by-transitions es a;
}
  where
    size : length (map key_transition_of es) ≡ length es
    size = length-map es key_transition_of

    z : Transition
    z = record { letter = 0; target = 0 }

-- the keys accept what the automaton does
pub key_accepts-states : (d : Automaton) (w : List ℕ) (q : ℕ) → key_accepts (state_after d) (state_accepts d) (q ∷ []) w ≡ accepts_from d q w
key_accepts-states d [] q = refl
key_accepts-states d (a ∷ w) q = by (step_of d q a) (λ t. key_accepts-states d w t)
  where
    by : (o : Option ℕ) → ((t : ℕ) → key_accepts (state_after d) (state_accepts d) (t ∷ []) w ≡ accepts_from d t w)
        → option_map_or (λ next. key_accepts (state_after d) (state_accepts d) next w) (option_map (λ t. t ∷ []) o) false ≡ option_map_or (λ t. accepts_from d t w) o false
    by None rest = refl
    by (Some t) rest = rest t
