-- The transitions of a state, as they are added.
use Rattle.std.proofs.Common.{◌≡◌, ◌==◌, ◌&&◌, ℕ, zero, suc, ◌+◌, ◌-◌, ◌<◌, ◌≤◌, ◌↔◌, Bool, List, [], ◌∷◌, ◌++◌, length, ◌⊎◌, inl, inr, sym, ap, ◌∙◌, subst, arith, get_or, take}
use Rattle.std.specs.Prelude.{Contains, slice_get, IsSomeAnd}
use Rattle.std.specs.List.{dedup}
use Rattle.std.specs.List.Sorted.{IsPermutation}
use Rattle.std.proofs.lemmas.Bool.{cases_lt}
use Rattle.std.proofs.lemmas.List.{take_all, get_or_append_left, get_or_push, length_push}
use Rattle.std.proofs.lemmas.List.Elements.{Contains-append_left, Contains-push, Contains-push_cases}
use Rattle.std.proofs.lemmas.List.Kept.{Contains-from_dedup}
use Rattle.std.proofs.lemmas.List.Sorted.{Contains-permutation, IsPermutation-sym}
use Rattle.digit_tuple.specs.declared.transitions.Transition.{Transition}
use Rattle.digit_tuple.specs.declared.transitions.NfaState.{NfaState}
use Rattle.digit_tuple.proofs.TransitionLemmas.{Contains-dedup, transitions_decide}
use Rattle.regex_build.specs.declared.codes.LetterRange.{LetterRange}
use Rattle.regex_build.specs.declared.next_places.NextPlaces.{NextPlaces}
use Rattle.regex_build.specs.Codes.{IsInRange}
use Rattle.regex_build.specs.Rows.{IsLetterAt, IsTransitionTo, IsStateAt, AreStates}
use Rattle.regex_build.proofs.ListSteps.{contains_none}
use Rattle.regex_build.proofs.LinkSteps.{contained_more}

-- the transition has this target, and a letter from the first one on and before the other
abbrev pub IsBetween : ℕ → ℕ → ℕ → Transition → Type 0
IsBetween place low high x = (x.target ≡ place) × ((low ≤ x.letter) × (x.letter < high))

abbrev transition : ℕ → ℕ → Transition
transition a place = record { letter = a; target = place }

same_transition : (x : Transition) (a place : ℕ) → x.letter ≡ a → x.target ≡ place → transition a place ≡ x
same_transition x a place e f = ap (λ (b : ℕ). let y : Transition = record { letter = b; target = place } in y) (sym e) ∙ ap (λ (t : ℕ). let y : Transition = record { letter = x.letter; target = t } in y) (sym f)

-- one letter more
pub transitions_more : (start old new : List Transition) (place low a : ℕ) → low ≤ a → ((x : Transition) → Contains old x ↔ (Contains start x ⊎ IsBetween place low a x)) → new ≡ old ++ transition a place ∷ []
    → (x : Transition) → Contains new x ↔ (Contains start x ⊎ IsBetween place low (a + 1) x)
transitions_more start old new place low a l so e x =
    let P : List Transition → Type 0 = λ xs. Contains xs x in (
      λ h. elim (Contains-push_cases old (transition a place) x (subst P e h)) [
        | inl k ↦ elim ((so x).0 k) [ inl s ↦ inl s | inr s ↦ let high : x.letter < a = s.1.1 in inr (s.0, (s.1.0, omega arith)) ]
        | inr k ↦
            let is : a ≡ x.letter = ap (λ (y : Transition). y.letter) k in
            let at : place ≡ x.target = ap (λ (y : Transition). y.target) k in
            inr (sym at, (omega arith, omega arith))
      ],
      λ h. subst P (sym e) (elim h [
        | inl s ↦ Contains-append_left old (transition a place ∷ []) x ((so x).1 (inl s))
        | inr s ↦ elim (cases_lt x.letter a) [
          | inl below ↦ Contains-append_left old (transition a place ∷ []) x ((so x).1 (inr (s.0, (s.1.0, below))))
          | inr above ↦
              let high : x.letter < a + 1 = s.1.1 in
              let is : x.letter ≡ a = omega arith in
              let Q : Transition → Type 0 = λ y. Contains (old ++ transition a place ∷ []) y in
              subst Q (same_transition x a place is s.0) (Contains-push old (transition a place))
        ]
      ]),
    )

pub transitions_none : (start : List Transition) (place low : ℕ) (x : Transition) → Contains start x ↔ (Contains start x ⊎ IsBetween place low low x)
transitions_none start place low x = (λ h. inl h, λ h. elim h [ inl s ↦ s | inr s ↦ let a : low ≤ x.letter = s.1.0 in let b : x.letter < low = s.1.1 in absurd (omega arith) ])

pub transitions_whole : (start transitions : List Transition) (place low a high : ℕ) → high ≤ a → low ≤ a → (a ≡ low) ⊎ (a ≤ high) → ((x : Transition) → Contains transitions x ↔ (Contains start x ⊎ IsBetween place low a x)) → (x : Transition) → Contains transitions x ↔ (Contains start x ⊎ IsBetween place low high x)
transitions_whole start transitions place low a high l m n so x = (
  λ h. elim ((so x).0 h) [ inl s ↦ inl s | inr s ↦ inr (s.0, (s.1.0, within s.1.0 s.1.1)) ],
  λ h. (so x).1 (elim h [ inl s ↦ inl s | inr s ↦ let b : x.letter < high = s.1.1 in inr (s.0, (s.1.0, omega arith)) ]),
)
  where
    within : low ≤ x.letter → x.letter < a → x.letter < high
    within p q = elim n [ inl e ↦ absurd (omega arith) | inr r ↦ omega arith ]

-- the range of a place
range_at : (ranges : List LetterRange) (k : ℕ) (range : LetterRange) (a : ℕ) → k < length ranges → range ≡ get_or ranges k range → IsSomeAnd (slice_get ranges k) (λ r. IsInRange r a) ↔ IsInRange range a
range_at [] k range a l e = absurd (omega arith)
range_at (r ∷ ranges) zero range a l e = let P : LetterRange → Type 0 = λ s. IsInRange s a in (λ h. subst P (sym e) h, λ h. subst P e h)
range_at (r ∷ ranges) (suc k) range a l e = range_at ranges k range a (omega arith) e

pub letter_at_place : (ranges : List LetterRange) (place : ℕ) (range : LetterRange) (a : ℕ) → 0 < place → place ≤ length ranges → range ≡ get_or ranges (place - 1) range → IsLetterAt ranges place a ↔ IsInRange range a
letter_at_place ranges zero range a l m e = absurd (omega arith)
letter_at_place ranges (suc k) range a l m e =
    let s : suc k - 1 ≡ k = omega arith in
    range_at ranges k range a (omega arith) (e ∙ ap (λ j. get_or ranges j range) s)

pub transition_to_none : (ranges : List LetterRange) (transitions : List Transition) → transitions ≡ [] → (x : Transition) → Contains transitions x ↔ IsTransitionTo ranges [] x
transition_to_none ranges transitions e x = let P : List Transition → Type 0 = λ xs. Contains xs x in (λ h. absurd (contains_none x (subst P e h)), λ h. absurd (contains_none x.target h.0))

-- one next place more
pub transition_to_more : (ranges : List LetterRange) (next : List ℕ) (i place : ℕ) (range : LetterRange) (old new : List Transition) → i < length next → place ≡ get_or next i place → 0 < place → place ≤ length ranges → range ≡ get_or ranges (place - 1) range
    → ((x : Transition) → Contains old x ↔ IsTransitionTo ranges (take i next) x) → ((x : Transition) → Contains new x ↔ (Contains old x ⊎ ((x.target ≡ place) × IsInRange range x.letter))) → (x : Transition) → Contains new x ↔ IsTransitionTo ranges (take (i + 1) next) x
transition_to_more ranges next i place range old new l at low high is so also x =
    let c = contained_more next i place l at x.target in
    let P : ℕ → Type 0 = λ p. IsLetterAt ranges p x.letter in (
      λ h. elim ((also x).0 h) [
        | inl k ↦ let r = (so x).0 k in (c.1 (inl r.0), r.1)
        | inr k ↦ (c.1 (inr (sym k.0)), subst P (sym k.0) ((letter_at_place ranges place range x.letter low high is).1 k.1))
      ],
      λ h. (also x).1 (elim (c.0 h.0) [
        | inl k ↦ inl ((so x).1 (k, h.1))
        | inr k ↦ inr (sym k, (letter_at_place ranges place range x.letter low high is).0 (subst P (sym k) h.1))
      ]),
    )

abbrev pub same : Transition → Transition → Bool
same e f = (e.letter == f.letter) && (e.target == f.target)

-- the transitions, sorted and none twice
pub transition_to_all : (ranges : List LetterRange) (next : List ℕ) (i : ℕ) (transitions sorted made : List Transition) → length next ≤ i → IsPermutation transitions sorted → made ≡ dedup same sorted → ((x : Transition) → Contains transitions x ↔ IsTransitionTo ranges (take i next) x)
    → (x : Transition) → Contains made x ↔ IsTransitionTo ranges next x
transition_to_all ranges next i transitions sorted made l moved left so x =
    let P : List ℕ → Type 0 = λ xs. (Contains transitions x → IsTransitionTo ranges xs x) × (IsTransitionTo ranges xs x → Contains transitions x) in
    let r = subst P (take_all i next l) (so x) in
    let Q : List Transition → Type 0 = λ es. Contains es x in (
      λ h. r.0 (Contains-permutation sorted transitions x (IsPermutation-sym transitions sorted moved) (Contains-from_dedup same sorted x (subst Q left h))),
      λ h. subst Q (sym left) (Contains-dedup same transitions_decide sorted x (Contains-permutation transitions sorted x moved (r.1 h))),
    )

-- one state more
pub states_more : (places : NextPlaces) (ranges : List LetterRange) (states more : List NfaState) (state : NfaState) (q : ℕ) → length states ≡ q → AreStates places ranges states → IsStateAt places ranges q state → more ≡ states ++ state ∷ [] → AreStates places ranges more
states_more places ranges states more state q count are is e k other l =
    let P : List NfaState → Type 0 = λ xs. IsStateAt places ranges k (get_or xs k other) in
    let Q : NfaState → Type 0 = λ s. IsStateAt places ranges k s in
    let total : length more ≡ length states + 1 = ap length e ∙ length_push states state in
    elim (cases_lt k q) [
      | inl m ↦
          let i : k < length states = omega arith in
          subst P (sym e) (subst Q (sym (get_or_append_left states (state ∷ []) other k i)) (are k other i))
      | inr m ↦
          let here : q ≡ k = omega arith in
          let R : ℕ → Type 0 = λ j. IsStateAt places ranges j state in
          subst P (sym e) (subst Q (sym (get_or_push states state other k (count ∙ here))) (subst R here is))
    ]
