-- The one automaton of its language, and the one of a function from words to classes.
use Rattle.std.specs.Prelude.{◌≡◌, ◌≢◌, ℕ, ◌<◌, List, length, Some, IsTrue, ◌↔◌}
use Rattle.digit_tuple.specs.Deterministic.{Automaton, IsTable, letters_of, states_of, step_of, accepting_of}
use Rattle.digit_tuple.specs.FirstWords.{IsNumberedByFirsts}
use Rattle.residual_classes.specs.Classes.{class_of}
use Rattle.residual_classes.specs.ClassFunctions.{SameClassesFrom, SameClassFunction, HasNoClassFrom}
use Rattle.minimise.specs.Residuals.{SameResidual, SameLanguage, IsDead}

-- The states are the residual languages that words lead to, but the empty one only where the language is empty, in the order of the first
-- words that lead to them. A letter leads nowhere if and only if no word is accepted after it.
pub record IsCanonical (d : Automaton) : Type 0 where
  pub table : IsTable (letters_of d) d.states
  pub firsts : List (List ℕ)
  pub numbered : IsNumberedByFirsts d firsts
  pub distinct : (p q : ℕ) → p < q → q < states_of d → ¬ SameResidual d p d q
  pub live : (p a q : ℕ) → p < states_of d → a < letters_of d → step_of d p a ≡ Some q → ¬ IsDead d q

-- two canonical automata over the same tracks with the same language are equal
abbrev pub CanonicalFormsAreEqual : Type 0
CanonicalFormsAreEqual = (d e : Automaton) → IsCanonical d → IsCanonical e → d.sizes ≡ e.sizes → SameLanguage d e → d ≡ e

-- The states are the functions that words lead to, from a word to the class of where it leads, but the one without classes only where no
-- word has a class, in the order of the first words that lead to them. A state accepts if and only if it has a class. A letter leads
-- nowhere if and only if no word has a class after it.
pub record IsCanonicalWithClasses (d : Automaton) (classes : List ℕ) : Type 0 where
  pub table : IsTable (letters_of d) d.states
  pub count : length classes ≡ states_of d
  pub accepting : (q : ℕ) → q < states_of d → IsTrue (accepting_of d q) ↔ (class_of classes q ≢ 0)
  pub firsts : List (List ℕ)
  pub numbered : IsNumberedByFirsts d firsts
  pub distinct : (p q : ℕ) → p < q → q < states_of d → ¬ SameClassesFrom d classes p d classes q
  pub live : (p a q : ℕ) → p < states_of d → a < letters_of d → step_of d p a ≡ Some q → ¬ HasNoClassFrom d classes q

-- two such automata over the same tracks with the same function are equal, and so are their classes
abbrev pub CanonicalClassesAreEqual : Type 0
CanonicalClassesAreEqual = (d e : Automaton) (classes others : List ℕ) → IsCanonicalWithClasses d classes → IsCanonicalWithClasses e others → d.sizes ≡ e.sizes → SameClassFunction d classes e others → (d ≡ e) × (classes ≡ others)
