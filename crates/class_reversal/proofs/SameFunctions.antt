-- Reversals of one function by two automata.
use Rattle.std.proofs.Common.{◌≡◌, ℕ, List, ◌++◌, reverse, sym, ◌∙◌, subst}
use Rattle.digit_tuple.specs.Deterministic.{Automaton, letters_of}
use Rattle.digit_tuple.specs.Letters.{IsWord, product}
use Rattle.digit_tuple.proofs.PaddingLemmas.{IsWord-reverse}
use Rattle.digit_tuple.proofs.WordLemmas.{IsWord-append}
use Rattle.residual_classes.specs.ClassFunctions.{SameClassFunction}
use Rattle.class_reversal.specs.ReversedClasses.{GivesReversedClasses, SameReversedClassAfter}

module _ (d e : Automaton) (classes ones : List ℕ) (sizes : e.sizes ≡ d.sizes) (same : SameClassFunction d classes e ones) (w v : List ℕ) (over : IsWord (letters_of d) w) (there : IsWord (letters_of d) v) where
  reversed_over : (w u : List ℕ) → IsWord (letters_of d) w → IsWord (letters_of d) u → IsWord (letters_of d) (reverse (w ++ u))
  reversed_over w u over more = IsWord-reverse (letters_of d) (w ++ u) (IsWord-append (letters_of d) w u over more)

  -- words are alike for the one if they are for the other
  pub same_reversed : SameReversedClassAfter e ones w v → SameReversedClassAfter d classes w v
  same_reversed alike u more =
      same (reverse (w ++ u)) (reversed_over w u over more)
      ∙ alike u (subst (λ (ss : List ℕ). IsWord (product ss) u) (sym sizes) more)
      ∙ sym (same (reverse (v ++ u)) (reversed_over v u there more))

  pub reversed_same : SameReversedClassAfter d classes w v → SameReversedClassAfter e ones w v
  reversed_same alike u more =
      let here : IsWord (letters_of d) u = subst (λ (ss : List ℕ). IsWord (product ss) u) sizes more in
      sym (same (reverse (w ++ u)) (reversed_over w u over here))
      ∙ alike u here
      ∙ same (reverse (v ++ u)) (reversed_over v u there here)

-- what gives the reversed words of the one their classes gives them to those of the other
pub gives_reversed : (d e f : Automaton) (classes ones others : List ℕ) → e.sizes ≡ d.sizes → SameClassFunction d classes e ones → GivesReversedClasses e ones f others → GivesReversedClasses d classes f others
gives_reversed d e f classes ones others sizes same gives w over =
    gives w (subst (λ (ss : List ℕ). IsWord (product ss) w) (sym sizes) over) ∙ sym (same (reverse w) (IsWord-reverse (letters_of d) w over))
