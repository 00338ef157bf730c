-- The transitions from a pair: one by the zero letter, and those of its second state by the other letters.
use Rattle.std.proofs.Common.{◌≡◌, ◌≢◌, ◌==◌, ◌&&◌, ℕ, zero, suc, ◌<◌, Bool, true, false, not, cond, if◌then◌else◌, List, [], ◌∷◌, ◌++◌, filter, map, length, get_or, slice_index, Option, None, Some, unwrap_or, refl, sym, ap, ◌∙◌, arith}
use Rattle.std.specs.List.{All, AllPairs}
use Rattle.std.specs.Option.{IfSome}
use Rattle.std.proofs.lemmas.Bool.{eqb-true, ne_eqb}
use Rattle.std.proofs.lemmas.Bool.Decides.{Decides-eqb}
use Rattle.std.proofs.lemmas.List.{get_or-map, length-map}
use Rattle.std.proofs.lemmas.List.Elements.{All-cons, All-filter, All-map, filter_passes}
use Rattle.std.proofs.lemmas.List.Kept.{AllPairs-cons, AllPairs-filter}
use Rattle.digit_tuple.specs.declared.transitions.Transition.{Transition}
use Rattle.digit_tuple.specs.Deterministic as deterministic
use Rattle.digit_tuple.specs.Deterministic.{Automaton, IsTable, transitions_of, letters_of, states_of, step_of, target_by}
use Rattle.digit_tuple.specs.Keys.{KeyTransition, AreKeyTransitions, IsByEarlier, key_by}
use Rattle.digit_tuple.proofs.DfaLemmas.{target_by-in_range}
use Rattle.residual_classes.specs.Classes.{next_of}
use Rattle.residual_classes.proofs.SinkLemmas.{row_of}
use Rattle.pad_rename.specs.PaddedPairs.{are_sinks, transitions_by_others, transitions_by_zero, is_by_other, pair_after, pair_transition, some_pair, twice}

-- one sink is two
pub are_sinks-one : (d : Automaton) → are_sinks d (states_of d) (states_of d) ≡ true
are_sinks-one d = ap (λ (b : Bool). b && b) ((Decides-eqb (states_of d) (states_of d)).1 refl)

-- a state is no sink
pub not_sinks : (d : Automaton) (p q : ℕ) → p ≢ states_of d → are_sinks d p q ≡ false
not_sinks d p q other = ap (λ (b : Bool). b && (q == states_of d)) (ne_eqb p (states_of d) other)

positive : (e : Transition) → is_by_other e ≡ true → 0 < e.letter
positive e is = by e.letter refl
  where
    by : (a : ℕ) → e.letter ≡ a → 0 < e.letter
    by zero same = let no : false ≡ true = sym (ap (λ (x : ℕ). not (x == 0)) same) ∙ is in cc
    by (suc a) same = omega (arith, same)

others-in_range : (letters : ℕ) (es : List Transition) → All (λ e. e.letter < letters) es → All (λ k. k.letter < letters) (transitions_by_others es)
others-in_range letters es small = All-map (λ k. k.letter < letters) pair_transition (filter is_by_other es) (All-filter is_by_other (λ e. e.letter < letters) es small)

others-positive : (es : List Transition) → All (λ k. 0 < k.letter) (transitions_by_others es)
others-positive es = All-map (λ k. 0 < k.letter) pair_transition (filter is_by_other es) (λ k d within. positive (get_or (filter is_by_other es) k d) (filter_passes is_by_other es k d within))

others-ascending : (es : List Transition) → AllPairs deterministic.IsByEarlier es → AllPairs IsByEarlier (transitions_by_others es)
others-ascending es up i j d before within =
    let fs : List Transition = filter is_by_other es in
    let e : Transition = record { letter = 0; target = 0 } in
    let long : length (transitions_by_others es) ≡ length fs = length-map fs pair_transition in
    let inside : j < length fs = omega (arith, within, long) in
    let one : get_or (transitions_by_others es) i d ≡ pair_transition (get_or fs i e) = get_or-map pair_transition fs i e d (omega (arith, before, inside)) in
    let two : get_or (transitions_by_others es) j d ≡ pair_transition (get_or fs j e) = get_or-map pair_transition fs j e d inside in
    let less : (get_or fs i e).letter < (get_or fs j e).letter = AllPairs-filter deterministic.IsByEarlier is_by_other es up i j e before inside in
    omega (arith, ap (λ (k : KeyTransition). k.letter) one, ap (λ (k : KeyTransition). k.letter) two, less)

-- the pair that a letter other than zero leads to
abbrev pair_to : Option ℕ → Option (List ℕ)
pair_to None = None
pair_to (Some t) = Some (twice t)

key_by-others : (es : List Transition) (a : ℕ) → key_by (transitions_by_others es) (suc a) ≡ pair_to (target_by es (suc a))
key_by-others [] a = refl
key_by-others (e ∷ es) a = by (e.letter == 0) refl (key_by-others es a)
  where
    same : (b : Bool) → (if b then Some (twice e.target) else pair_to (target_by es (suc a))) ≡ pair_to (if b then Some e.target else target_by es (suc a))
    same true = refl
    same false = refl

    by : (b : Bool) → (e.letter == 0) ≡ b → key_by (transitions_by_others es) (suc a) ≡ pair_to (target_by es (suc a))
        → key_by (map pair_transition (cond (not b) (e ∷ filter is_by_other es) (filter is_by_other es))) (suc a) ≡ pair_to (target_by (e ∷ es) (suc a))
    by true is rest =
        let zero_is : e.letter ≡ 0 = eqb-true e.letter 0 is in
        rest ∙ sym (ap (λ (b : Bool). pair_to (if b then Some e.target else target_by es (suc a))) (ne_eqb e.letter (suc a) (λ other. absurd (omega (arith, zero_is, other)))))
    by false is rest = ap (λ (r : Option (List ℕ)). if e.letter == suc a then Some (twice e.target) else r) rest ∙ same (e.letter == suc a)

key_by-others_zero : (es : List Transition) → key_by (transitions_by_others es) 0 ≡ None
key_by-others_zero [] = refl
key_by-others_zero (e ∷ es) = by (e.letter == 0) refl (key_by-others_zero es)
  where
    by : (b : Bool) → (e.letter == 0) ≡ b → key_by (transitions_by_others es) 0 ≡ None → key_by (map pair_transition (cond (not b) (e ∷ filter is_by_other es) (filter is_by_other es))) 0 ≡ None
    by true is rest = rest
    by false is rest = ap (λ b. if b then Some (twice e.target) else key_by (transitions_by_others es) 0) is ∙ rest

module _ (d : Automaton) (table : IsTable (letters_of d) d.states) (key : List ℕ) where
  abbrev stripped : ℕ
  stripped = slice_index key 0

  abbrev whole : ℕ
  whole = slice_index key 1

  abbrev others : List KeyTransition
  others = transitions_by_others (transitions_of d whole)

  -- where a letter other than zero leads
  lead-other : (a : ℕ) → pair_to (step_of d whole (suc a)) ≡ pair_after d key (suc a)
  lead-other a = by (step_of d whole (suc a)) (target_by-in_range (letters_of d) (states_of d) (transitions_of d whole) (suc a) (row_of d table whole).in_range)
    where
      by : (o : Option ℕ) → IfSome o (λ t. t < states_of d) → pair_to o ≡ some_pair d (unwrap_or o (states_of d)) (unwrap_or o (states_of d))
      by None inside = ap (λ b. if b then None else Some (twice (states_of d))) (sym (are_sinks-one d))
      by (Some t) inside = ap (λ b. if b then None else Some (twice t)) (sym (not_sinks d t t (λ same. absurd (omega (arith, inside, same)))))

  -- the transitions from the pair
  pub AreKeyTransitions-pair : (letters : ℕ) → letters ≡ letters_of d → AreKeyTransitions letters (pair_after d key) (transitions_by_zero d letters key ++ others)
  AreKeyTransitions-pair zero none = record {
    in_range = others-in_range zero (transitions_of d whole) (λ k e within. let low = ((row_of d table whole).in_range k e within).0 in omega (arith, low, none));
    ascending = others-ascending (transitions_of d whole) (row_of d table whole).ascending;
    lead = λ a small. absurd (omega (arith, small));
  }
  AreKeyTransitions-pair (suc letters) is = by (are_sinks d stripped (next_of d whole 0)) refl
    where
      small : All (λ k. k.letter < suc letters) others
      small = others-in_range (suc letters) (transitions_of d whole) (λ k e within. let low = ((row_of d table whole).in_range k e within).0 in omega (arith, low, is))

      up : AllPairs IsByEarlier others
      up = others-ascending (transitions_of d whole) (row_of d table whole).ascending

      zero_transition : KeyTransition
      zero_transition = record { letter = 0; key = stripped ∷ next_of d whole 0 ∷ [] }

      by : (b : Bool) → are_sinks d stripped (next_of d whole 0) ≡ b → AreKeyTransitions (suc letters) (pair_after d key) ((if b then [] else zero_transition ∷ []) ++ others)
      by true sinks = record {
        in_range = small;
        ascending = up;
        lead = lead;
      }
        where
          lead : (a : ℕ) → a < suc letters → key_by others a ≡ pair_after d key a
          lead zero low = key_by-others_zero (transitions_of d whole) ∙ ap (λ b. if b then None else Some (stripped ∷ next_of d whole 0 ∷ [])) (sym sinks)
          lead (suc a) low = key_by-others (transitions_of d whole) a ∙ lead-other a
      by false live = record {
        in_range = All-cons (λ k. k.letter < suc letters) zero_transition others (omega arith) small;
        ascending = AllPairs-cons IsByEarlier zero_transition others (others-positive (transitions_of d whole)) up;
        lead = lead;
      }
        where
          lead : (a : ℕ) → a < suc letters → key_by (zero_transition ∷ others) a ≡ pair_after d key a
          lead zero low = ap (λ b. if b then None else Some (stripped ∷ next_of d whole 0 ∷ [])) (sym live)
          lead (suc a) low =
              ap (λ (b : Bool). if b then Some zero_transition.key else key_by others (suc a)) (ne_eqb 0 (suc a) (λ same. absurd (omega (arith, same))))
              ∙ key_by-others (transitions_of d whole) a ∙ lead-other a
