-- Transitions by each letter in order, where a function says.
use Rattle.std.proofs.Common.{◌≡◌, ◌≢◌, ℕ, suc, ◌+◌, ◌<◌, ◌⊎◌, inl, inr, List, [], ◌∷◌, ◌++◌, Option, None, Some, sym, ap, ◌∙◌, arith}
use Rattle.std.specs.List.{All}
use Rattle.std.proofs.lemmas.Bool.{cases_eq}
use Rattle.std.proofs.lemmas.List.Elements.{All-push}
use Rattle.std.proofs.lemmas.List.Quantifiers.{all_pairs_push}
use Rattle.digit_tuple.specs.declared.transitions.Transition.{Transition}
use Rattle.digit_tuple.specs.Deterministic.{IsByEarlier, target_by}
use Rattle.digit_tuple.proofs.DfaLemmas.{target_by-none, target_by-other, target_by-first}
use Rattle.digit_tuple.specs.TransitionsBy.{AreTransitionsBy}

-- the next letter leads nowhere
pub transitions_stay : (target : ℕ → Option ℕ) (letter states : ℕ) (transitions : List Transition) → AreTransitionsBy target letter states transitions → target letter ≡ None → AreTransitionsBy target (letter + 1) states transitions
transitions_stay target letter states transitions before nowhere = record {
  in_range = λ i d within. (omega (arith, (before.in_range i d within).0), (before.in_range i d within).1);
  ascending = before.ascending;
  leads = λ a within. by a within (cases_eq a letter);
}
  where
    by : (a : ℕ) → a < letter + 1 → (a ≡ letter) ⊎ ¬ (a ≡ letter) → target_by transitions a ≡ target a
    by a within (inl same) = target_by-none transitions a (λ i d inside at. absurd (omega (arith, (before.in_range i d inside).0, at, same))) ∙ sym (ap target same ∙ nowhere)
    by a within (inr other) = before.leads a (omega (arith, within, other))

-- a transition after others by earlier letters
target_by-push : (es : List Transition) (e : Transition) (a : ℕ) → All (λ f. f.letter < e.letter) es → a ≡ e.letter → target_by (es ++ e ∷ []) a ≡ Some e.target
target_by-push [] e a below same = target_by-first e [] a (sym same)
target_by-push (f ∷ es) e a below same =
    target_by-other f (es ++ e ∷ []) a (λ at. absurd (omega (arith, below 0 f (omega arith), at, same)))
    ∙ target_by-push es e a (λ i d within. below (suc i) d (omega (arith, within))) same

target_by-prefix : (es : List Transition) (e : Transition) (a : ℕ) → e.letter ≢ a → target_by (es ++ e ∷ []) a ≡ target_by es a
target_by-prefix [] e a other = target_by-other e [] a other
target_by-prefix (f ∷ es) e a other = by (cases_eq f.letter a) (target_by-prefix es e a other)
  where
    by : (f.letter ≡ a) ⊎ ¬ (f.letter ≡ a) → target_by (es ++ e ∷ []) a ≡ target_by es a → target_by (f ∷ es ++ e ∷ []) a ≡ target_by (f ∷ es) a
    by (inl same) rest = target_by-first f (es ++ e ∷ []) a same ∙ sym (target_by-first f es a same)
    by (inr differ) rest = target_by-other f (es ++ e ∷ []) a differ ∙ rest ∙ sym (target_by-other f es a differ)

-- the next letter leads somewhere
pub transitions_more : (target : ℕ → Option ℕ) (letter states to : ℕ) (transitions : List Transition) (transition : Transition) → AreTransitionsBy target letter states transitions → transition.letter ≡ letter → transition.target ≡ to → to < states → target letter ≡ Some to
    → AreTransitionsBy target (letter + 1) states (transitions ++ transition ∷ [])
transitions_more target letter states to transitions transition before by_letter to_target small leads = record {
  in_range = All-push (λ e. (e.letter < letter + 1) × (e.target < states)) transitions transition
      (λ i d within. (omega (arith, (before.in_range i d within).0), (before.in_range i d within).1)) (omega (arith, by_letter), omega (arith, to_target, small));
  ascending = all_pairs_push IsByEarlier transitions transition before.ascending (λ i d within. omega (arith, (before.in_range i d within).0, by_letter));
  leads = λ a within. by a within (cases_eq a letter);
}
  where
    by : (a : ℕ) → a < letter + 1 → (a ≡ letter) ⊎ ¬ (a ≡ letter) → target_by (transitions ++ transition ∷ []) a ≡ target a
    by a within (inl same) =
        target_by-push transitions transition a (λ i d inside. omega (arith, (before.in_range i d inside).0, by_letter)) (same ∙ sym by_letter)
        ∙ ap (λ (t : ℕ). Some t) to_target ∙ sym (ap target same ∙ leads)
    by a within (inr other) =
        target_by-prefix transitions transition a (λ at. other (sym at ∙ by_letter)) ∙ before.leads a (omega (arith, within, other))
