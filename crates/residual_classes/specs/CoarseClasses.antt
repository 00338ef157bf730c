-- Classes that part no states from which all words lead to the same outputs.
use Rattle.std.specs.Prelude.{◌≡◌, ℕ, ◌+◌, ◌≤◌, List, length, ◌↔◌}
use Rattle.std.specs.List.{All}
use Rattle.digit_tuple.specs.Deterministic.{Automaton, states_of}
use Rattle.residual_classes.specs.Classes.{class_of}
use Rattle.residual_classes.specs.Outputs.{SameOutputs}

-- states from which words lead to the same outputs have one class
abbrev pub IsCoarse : Automaton → List ℕ → List ℕ → Type 0
IsCoarse d outputs classes = (p q : ℕ) → p ≤ states_of d → q ≤ states_of d → SameOutputs d outputs p q → class_of classes p ≡ class_of classes q

-- states have one class if and only if words lead to the same outputs
abbrev pub AreResiduals : Automaton → List ℕ → List ℕ → Type 0
AreResiduals d outputs classes = (p q : ℕ) → p ≤ states_of d → q ≤ states_of d → class_of classes p ≡ class_of classes q ↔ SameOutputs d outputs p q

-- states of one class have one output
abbrev pub HaveOneOutput : Automaton → List ℕ → List ℕ → Type 0
HaveOneOutput d outputs classes = (p q : ℕ) → p ≤ states_of d → q ≤ states_of d → class_of classes p ≡ class_of classes q → class_of outputs p ≡ class_of outputs q

-- a number for each state and the sink, and one where words lead to the same outputs
pub record AreCoarseNumbers (d : Automaton) (outputs numbers : List ℕ) : Type 0 where
  pub width : length numbers ≡ states_of d + 1
  pub coarse : IsCoarse d outputs numbers

-- a class for each state and the sink, at most the sink's number, and one where words lead to the same outputs
pub record AreCoarseClasses (d : Automaton) (outputs classes : List ℕ) : Type 0 where
  pub width : length classes ≡ states_of d + 1
  pub below : All (λ class. class ≤ states_of d) classes
  pub coarse : IsCoarse d outputs classes

-- the same, and one if and only if they do
pub record AreResidualClasses (d : Automaton) (outputs classes : List ℕ) : Type 0 where
  pub width : length classes ≡ states_of d + 1
  pub below : All (λ class. class ≤ states_of d) classes
  pub residuals : AreResiduals d outputs classes
