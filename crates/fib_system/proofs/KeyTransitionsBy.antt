-- Key transitions by each letter in order, where a function says.
use Rattle.std.proofs.Common.{◌≡◌, ◌≢◌, ℕ, suc, ◌+◌, ◌<◌, Bool, if◌then◌else◌, ◌⊎◌, inl, inr, List, [], ◌∷◌, ◌++◌, Option, None, Some, refl, sym, ap, ◌∙◌, eq-eqb, arith}
use Rattle.std.specs.List.{All}
use Rattle.std.proofs.lemmas.Bool.{cases_eq, ne_eqb}
use Rattle.std.proofs.lemmas.List.Elements.{All-push}
use Rattle.std.proofs.lemmas.List.Quantifiers.{all_pairs_push}
use Rattle.digit_tuple.specs.Keys.{KeyTransition, AreKeyTransitions, IsByEarlier, key_by}

by_this : (e : KeyTransition) (es : List KeyTransition) (a : ℕ) → e.letter ≡ a → key_by (e ∷ es) a ≡ Some e.key
by_this e es a same = ap (λ (b : Bool). if b then Some e.key else key_by es a) (eq-eqb e.letter a same)

by_others : (e : KeyTransition) (es : List KeyTransition) (a : ℕ) → e.letter ≢ a → key_by (e ∷ es) a ≡ key_by es a
by_others e es a other = ap (λ (b : Bool). if b then Some e.key else key_by es a) (ne_eqb e.letter a other)

-- no transition is by a letter past them all
by_none : (es : List KeyTransition) (a : ℕ) → All (λ e. e.letter < a) es → key_by es a ≡ None
by_none [] a below = refl
by_none (e ∷ es) a below = by_others e es a (λ at. absurd (omega (arith, below 0 e (omega arith), at))) ∙ by_none es a (λ i d within. below (suc i) d (omega (arith, within)))

-- a transition after others by earlier letters
by_last : (es : List KeyTransition) (e : KeyTransition) → All (λ f. f.letter < e.letter) es → key_by (es ++ e ∷ []) e.letter ≡ Some e.key
by_last [] e below = by_this e [] e.letter refl
by_last (f ∷ es) e below = by_others f (es ++ e ∷ []) e.letter (λ at. absurd (omega (arith, below 0 f (omega arith), at))) ∙ by_last es e (λ i d within. below (suc i) d (omega (arith, within)))

by_prefix : (es : List KeyTransition) (e : KeyTransition) (a : ℕ) → e.letter ≢ a → key_by (es ++ e ∷ []) a ≡ key_by es a
by_prefix [] e a other = by_others e [] a other
by_prefix (f ∷ es) e a other = by (cases_eq f.letter a) (by_prefix es e a other)
  where
    by : (f.letter ≡ a) ⊎ ¬ (f.letter ≡ a) → key_by (es ++ e ∷ []) a ≡ key_by es a → key_by (f ∷ es ++ e ∷ []) a ≡ key_by (f ∷ es) a
    by (inl same) rest = by_this f (es ++ e ∷ []) a same ∙ sym (by_this f es a same)
    by (inr differ) rest = by_others f (es ++ e ∷ []) a differ ∙ rest ∙ sym (by_others f es a differ)

-- the next letter leads nowhere
pub key_transitions_stay : (after : ℕ → Option (List ℕ)) (letter : ℕ) (transitions : List KeyTransition) → AreKeyTransitions letter after transitions → after letter ≡ None → AreKeyTransitions (letter + 1) after transitions
key_transitions_stay after letter transitions before nowhere = record {
  in_range = λ i d within. omega (arith, before.in_range i d within);
  ascending = before.ascending;
  lead = λ a within. by a within (cases_eq a letter);
}
  where
    by : (a : ℕ) → a < letter + 1 → (a ≡ letter) ⊎ ¬ (a ≡ letter) → key_by transitions a ≡ after a
    by a within (inl same) = by_none transitions a (λ i d inside. omega (arith, before.in_range i d inside, same)) ∙ sym (ap after same ∙ nowhere)
    by a within (inr other) = before.lead a (omega (arith, within, other))

-- the next letter leads to a key
pub key_transitions_more : (after : ℕ → Option (List ℕ)) (letter : ℕ) (key : List ℕ) (transitions : List KeyTransition) → AreKeyTransitions letter after transitions → after letter ≡ Some key
    → AreKeyTransitions (letter + 1) after (transitions ++ (record { letter = letter; key = key }) ∷ [])
key_transitions_more after letter key transitions before leads = record {
  in_range = All-push (λ e. e.letter < letter + 1) transitions transition (λ i d within. omega (arith, before.in_range i d within)) (omega arith);
  ascending = all_pairs_push IsByEarlier transitions transition before.ascending before.in_range;
  lead = λ a within. by a within (cases_eq letter a);
}
  where
    transition : KeyTransition
    transition = record { letter = letter; key = key }

    by : (a : ℕ) → a < letter + 1 → (letter ≡ a) ⊎ ¬ (letter ≡ a) → key_by (transitions ++ transition ∷ []) a ≡ after a
    by a within (inl same) = ap (λ (b : ℕ). key_by (transitions ++ transition ∷ []) b) (sym same) ∙ by_last transitions transition before.in_range ∙ sym (sym (ap after same) ∙ leads)
    by a within (inr other) = by_prefix transitions transition a other ∙ before.lead a (omega (arith, within, other))
