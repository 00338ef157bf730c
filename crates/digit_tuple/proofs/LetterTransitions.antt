-- A key transition by each letter.
use Rattle.std.proofs.Common.{◌≡◌, ◌≢◌, ◌==◌, ℕ, ◌+◌, ◌<◌, ◌≤◌, suc, zero, Bool, true, false, List, [], ◌∷◌, ◌++◌, map, get_or, Some, refl, sym, ap, subst, arith, if◌then◌else◌}
use Rattle.std.specs.List.{range_with_len}
use Rattle.std.proofs.lemmas.Bool.{eqb-false}
use Rattle.std.proofs.lemmas.Bool.Decides.{Decides-eqb}
use Rattle.std.proofs.lemmas.List.FromFn.{length-map-range_with_len, get_or-map-range_with_len, map-range_with_len_more}
use Rattle.digit_tuple.specs.Keys.{KeyTransition, AreKeyTransitions, key_by}

abbrev pub key_transition_to : (ℕ → List ℕ) → ℕ → KeyTransition
key_transition_to f a = record { letter = a; key = f a }

-- a transition by each of so many letters
abbrev pub key_transitions_to : (ℕ → List ℕ) → ℕ → ℕ → List KeyTransition
key_transitions_to f from count = map (key_transition_to f) (range_with_len from count)

key_by-transition : (f : ℕ → List ℕ) (n from a : ℕ) (b : Bool) → (from == a) ≡ b → (from ≢ a → key_by (key_transitions_to f (from + 1) n) a ≡ Some (f a))
    → (if b then Some (f from) else key_by (key_transitions_to f (from + 1) n) a) ≡ Some (f a)
key_by-transition f n from a true same rest = ap (λ k. Some (f k)) ((Decides-eqb from a).0 same)
key_by-transition f n from a false differ rest = rest (eqb-false from a differ)

key_by-transitions : (f : ℕ → List ℕ) (n from a : ℕ) → from ≤ a → a < from + n → key_by (key_transitions_to f from n) a ≡ Some (f a)
key_by-transitions f zero from a low high = absurd (omega (arith, low, high))
key_by-transitions f (suc n) from a low high =
    key_by-transition f n from a (from == a) refl (λ other. key_by-transitions f n (from + 1) a (omega (arith, low, other)) (omega (arith, high)))

-- they are the transitions by all letters
pub AreKeyTransitions-all : (f : ℕ → List ℕ) (letters : ℕ) → AreKeyTransitions letters (λ a. Some (f a)) (key_transitions_to f 0 letters)
AreKeyTransitions-all f letters = record {
  in_range = λ k d within.
      let small : k < letters = omega (arith, length-map-range_with_len (key_transition_to f) 0 letters, within) in
      subst (λ (s : KeyTransition). s.letter < letters) (sym (at k d small)) small;
  ascending = λ i j d before within.
      let small : j < letters = omega (arith, length-map-range_with_len (key_transition_to f) 0 letters, within) in
      subst (λ (s : KeyTransition). s.letter < (get_or (key_transitions_to f 0 letters) j d).letter) (sym (at i d (omega (arith, before, small))))
      (subst (λ (s : KeyTransition). i < s.letter) (sym (at j d small)) before);
  lead = λ a small. key_by-transitions f letters 0 a (omega arith) (omega (arith, small));
}
  where
    at : (k : ℕ) (d : KeyTransition) → k < letters → get_or (key_transitions_to f 0 letters) k d ≡ key_transition_to f k
    at k d small = get_or-map-range_with_len (key_transition_to f) 0 letters k k d small (omega arith)

pub key_transitions_to_more : (f : ℕ → List ℕ) (n : ℕ) → key_transitions_to f 0 (n + 1) ≡ key_transitions_to f 0 n ++ key_transition_to f n ∷ []
key_transitions_to_more f n = map-range_with_len_more (key_transition_to f) 0 n n (omega arith)
