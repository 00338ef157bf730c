-- The letters of reversed words, by their classes.
use Rattle.std.proofs.Common.{◌≡◌, ℕ, ◌<◌, ◌≤◌, List, [], ◌++◌, length, map, reverse, get_or, Option, None, Some, ◌⊎◌, inl, inr, refl, sym, ap, ◌∙◌, subst, arith}
use Rattle.std.specs.List.{All}
use Rattle.std.specs.Option.{option_map_or, option_and_then}
use Rattle.std.proofs.lemmas.Bool.{cases_lt}
use Rattle.std.proofs.lemmas.List.{get_or-map, get_or_past, length-map}
use Rattle.std.proofs.lemmas.List.Elements.{All-from_get_or}
use Rattle.digit_tuple.specs.Deterministic.{Automaton, letters_of, run_of, states_of}
use Rattle.digit_tuple.specs.Letters.{IsWord, product}
use Rattle.digit_tuple.proofs.WidthLemmas.{IsEquivalence-values}
use Rattle.residual_classes.specs.Classes.{class_of}
use Rattle.residual_classes.specs.ClassFunctions.{class_after}
use Rattle.minimise.specs.Canonical.{IsCanonicalWithClasses}
use Rattle.class_reversal.specs.ReversedClasses.{GivesReversedClasses, SameReversedClassAfter}
use Rattle.automaton_steps.specs.Laws.{HasOneOutcome}
use Rattle.automaton_steps.proofs.StepAnswers.{step_one}
use Rattle.word_output.specs.LetterFunctions.{IsLetterFunction, LetterFunctionValue, letter_after, letter_in, LetterFunctionsAreEqual}
use Rattle.word_output.specs.StateLetters.{letter_at, letter_led}
use Rattle.word_output.proofs.LetterFunctionLemmas.{one_class}
use Rattle.letter_reversal.specs.LetterReversals.{IsLetterReversal, ReversedLettersAlike, letter_reversal_step}

module _ (f : LetterFunctionValue) (is : IsLetterFunction f) where
  -- a word has no class past the letters
  pub class_within : (w : List ℕ) → class_after f.automaton f.classes w ≤ length f.letters
  class_within w = by (run_of f.automaton 0 w)
    where
      at : (q : ℕ) → (q < length f.classes) ⊎ (length f.classes ≤ q) → class_of f.classes q ≤ length f.letters
      at q (inl less) = is.within q 0 less
      at q (inr past) = omega (arith, get_or_past f.classes q 0 past)

      by : (o : Option ℕ) → option_map_or (λ p. class_of f.classes p) o 0 ≤ length f.letters
      by None = omega arith
      by (Some q) = at q (cases_lt q (length f.classes))

  -- words have one class if they have one letter
  same_class : (w v : List ℕ) → letter_after f w ≡ letter_after f v → class_after f.automaton f.classes w ≡ class_after f.automaton f.classes v
  same_class w v same = one_class f.letters (class_after f.automaton f.classes w) (class_after f.automaton f.classes v) is.ascending (class_within w) (class_within v) same

  pub letters_from_classes : (w v : List ℕ) → SameReversedClassAfter f.automaton f.classes w v → ReversedLettersAlike f w v
  letters_from_classes w v same u over = ap (letter_in f.letters) (same u over)

  pub classes_from_letters : (w v : List ℕ) → ReversedLettersAlike f w v → SameReversedClassAfter f.automaton f.classes w v
  classes_from_letters w v same u over = same_class (reverse (w ++ u)) (reverse (v ++ u)) (same u over)

  module _ (e : Automaton) (classes : List ℕ) (sizes : e.sizes ≡ f.automaton.sizes) (canonical : IsCanonicalWithClasses e classes) (given : GivesReversedClasses f.automaton f.classes e classes) where
    over_f : (w : List ℕ) → IsWord (letters_of e) w → IsWord (letters_of f.automaton) w
    over_f w over = subst (λ (ss : List ℕ). IsWord (product ss) w) sizes over

    -- nor has a state
    pub classes_within : All (λ class. class ≤ length f.letters) classes
    classes_within = All-from_get_or (λ class. class ≤ length f.letters) classes 0 (λ q inside.
        let within : q < states_of e = omega (arith, inside, canonical.count) in
        let first : List ℕ = get_or canonical.firsts q [] in
        let is : class_of classes q ≡ class_after f.automaton f.classes (reverse first) =
        sym (ap (λ (o : Option ℕ). option_map_or (λ p. class_of classes p) o 0) (canonical.numbered.lead q within))
        ∙ given first (over_f first (canonical.numbered.over q within)) in
        omega (arith, is, class_within (reverse first)))

    -- the letters of the classes are those of the reversed words
    pub letters_reversed : (w : List ℕ) → IsWord (letters_of f.automaton) w → letter_led e (map (letter_in f.letters) classes) w ≡ letter_after f (reverse w)
    letters_reversed w over = by (run_of e 0 w) ∙ ap (letter_in f.letters) (given w over)
      where
        at : (q : ℕ) → (q < length classes) ⊎ (length classes ≤ q) → letter_at (map (letter_in f.letters) classes) q ≡ letter_in f.letters (class_of classes q)
        at q (inl less) = get_or-map (letter_in f.letters) classes q 0 None less
        at q (inr past) = get_or_past (map (letter_in f.letters) classes) q None (omega (arith, past, length-map classes (letter_in f.letters))) ∙ ap (letter_in f.letters) (sym (get_or_past classes q 0 past))

        by : (o : Option ℕ) → option_and_then (λ q. letter_at (map (letter_in f.letters) classes) q) o ≡ letter_in f.letters (option_map_or (λ p. class_of classes p) o 0)
        by None = refl
        by (Some q) = at q (cases_lt q (length classes))

-- one function has the letters of the reversed words
module _ (equal : LetterFunctionsAreEqual) where
  one_reversal : (f g h : LetterFunctionValue) → IsLetterReversal f g → IsLetterReversal f h → g ≡ h
  one_reversal f g h one other =
      equal g h one.function other.function (one.sizes ∙ sym other.sizes)
      (λ w over.
      let here : IsWord (letters_of f.automaton) w = subst (λ (sizes : List ℕ). IsWord (product sizes) w) one.sizes over in
      one.letters w here ∙ sym (other.letters w here))

  pub reversal_outcome : (f : LetterFunctionValue) → HasOneOutcome (letter_reversal_step f)
  reversal_outcome f = step_one (letter_reversal_step f) (IsEquivalence-values (IsWord (letters_of f.automaton)) (λ w u. letter_after f (reverse (w ++ u)))) (one_reversal f)
