-- Classes that are the residuals.
use Rattle.std.proofs.Common.{◌≡◌, ℕ, ◌≤◌, List, [], ◌∷◌, length, sym, ◌∙◌}
use Rattle.digit_tuple.specs.Deterministic.{Automaton, IsTable, letters_of, states_of}
use Rattle.digit_tuple.specs.Letters.{IsWord}
use Rattle.residual_classes.specs.Outputs.{SameOutputs}
use Rattle.residual_classes.specs.ClassFunctions.{class_from}
use Rattle.residual_classes.specs.Classes.{class_of, next_of}
use Rattle.residual_classes.specs.Alike.{AreAlike}
use Rattle.residual_classes.specs.CoarseClasses.{IsCoarse, AreCoarseClasses, AreResidualClasses, HaveOneOutput}
use Rattle.residual_classes.proofs.StabilityLemmas.{IsStable}
use Rattle.residual_classes.proofs.SinkLemmas.{next_within}
use Rattle.residual_classes.proofs.ClassFromLemmas.{class_from-next}

module _ (d : Automaton) (outputs : List ℕ) (given : length outputs ≡ states_of d) (table : IsTable (letters_of d) d.states) where
  -- what has one residual is alike
  pub alike_residual : (classes : List ℕ) (p q : ℕ) → IsCoarse d outputs classes → p ≤ states_of d → q ≤ states_of d → SameOutputs d outputs p q → AreAlike d classes p q
  alike_residual classes p q coarse small low same = record {
    own = coarse p q small low same;
    next = λ a inside. coarse (next_of d p a) (next_of d q a) (next_within d table p a) (next_within d table q a)
        (λ w over. sym (class_from-next d outputs given p a w) ∙ same (a ∷ w) (inside, over) ∙ class_from-next d outputs given q a w);
  }

  -- what stays alike, and has one output, has one residual
  module _ (classes : List ℕ) (stable : IsStable d classes) (one_output_each : HaveOneOutput d outputs classes) where
    pub residual_from_class : (w : List ℕ) (p q : ℕ) → p ≤ states_of d → q ≤ states_of d → class_of classes p ≡ class_of classes q → IsWord (letters_of d) w → class_from d outputs p w ≡ class_from d outputs q w
    residual_from_class [] p q small low same over = one_output_each p q small low same
    residual_from_class (a ∷ w) p q small low same over =
        class_from-next d outputs given p a w
        ∙ residual_from_class w (next_of d p a) (next_of d q a) (next_within d table p a) (next_within d table q a) ((stable p q small low same).next a over.0) over.1
        ∙ sym (class_from-next d outputs given q a w)

  -- classes that letters keep, each of one output, are the residuals
  pub AreResidualClasses-stable : (classes : List ℕ) → AreCoarseClasses d outputs classes → IsStable d classes → HaveOneOutput d outputs classes → AreResidualClasses d outputs classes
  AreResidualClasses-stable classes coarse stable one_output_each = record {
    width = coarse.width;
    below = coarse.below;
    residuals = λ p q small low. ((λ same w over. residual_from_class classes stable one_output_each w p q small low same over), (λ same. coarse.coarse p q small low same));
  }

  -- the residuals are classes that letters keep
  pub AreAlike-residuals : (classes : List ℕ) → AreResidualClasses d outputs classes → (p q : ℕ) → p ≤ states_of d → q ≤ states_of d → class_of classes p ≡ class_of classes q → AreAlike d classes p q
  AreAlike-residuals classes are p q small low same =
      alike_residual classes p q (λ r s one two alike. (are.residuals r s one two).1 alike) small low ((are.residuals p q small low).0 same)
