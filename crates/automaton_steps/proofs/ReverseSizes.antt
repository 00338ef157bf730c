-- Words after which the reversed language goes on alike are accepted alike before each word.
use Rattle.std.proofs.Common.{◌≡◌, ℕ, List, ◌++◌, reverse, sym, ◌∙◌, subst}
use Rattle.digit_tuple.specs.Deterministic.{Automaton, letters_of, accepts_of}
use Rattle.digit_tuple.specs.Letters.{IsWord, product}
use Rattle.digit_tuple.specs.Width.{IsEquivalence}
use Rattle.digit_tuple.proofs.WidthLemmas.{IsEquivalence-values}
use Rattle.digit_tuple.proofs.WordLemmas.{IsWord-append}
use Rattle.determinise.specs.Reversed.{SameReversedResidual}
use Rattle.minimise.specs.Canonical.{IsCanonical}
use Rattle.minimise.specs.Residuals.{SameLanguage}
use Rattle.automaton_steps.specs.ReverseSteps.{IsReversed}
use Rattle.automaton_steps.proofs.StepSizes.{AreKept}

module _ (d : Automaton) where
  pub IsEquivalence-reverse : IsEquivalence (SameReversedResidual d)
  IsEquivalence-reverse = IsEquivalence-values (IsWord (letters_of d)) (λ w u. accepts_of d (reverse (w ++ u)))

  pub reverse_kept : (e : Automaton) → IsReversed d e → AreKept (SameReversedResidual d) (letters_of d) e
  reverse_kept e is w v u one other more alike =
      is.language (w ++ u) (IsWord-append (letters_of d) w u one more) ∙ alike u more ∙ sym (is.language (v ++ u) (IsWord-append (letters_of d) v u other more))

-- the canonical automaton of a reversal
pub IsReversed-canonical : (d e f : Automaton) → e.sizes ≡ d.sizes → ((w : List ℕ) → IsWord (letters_of d) w → accepts_of e w ≡ accepts_of d (reverse w))
    → f.sizes ≡ e.sizes → SameLanguage e f → IsCanonical f → IsReversed d f
IsReversed-canonical d e f sizes language same_sizes same canonical = record {
  sizes = same_sizes ∙ sizes;
  canonical = canonical;
  language = λ w over. sym (same w (subst (λ (s : List ℕ). IsWord (product s) w) (sym sizes) over)) ∙ language w over;
}
