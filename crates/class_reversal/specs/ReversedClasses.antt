-- The function that gives to a word the class of the reversed word.
use Rattle.std.specs.Prelude.{◌≡◌, ℕ, List, ◌++◌, reverse}
use Rattle.digit_tuple.specs.Deterministic.{Automaton, letters_of}
use Rattle.digit_tuple.specs.Letters.{IsWord}
use Rattle.residual_classes.specs.ClassFunctions.{class_after}

-- each word over the alphabet has in e the class that the reversed word has in d
abbrev pub GivesReversedClasses : Automaton → List ℕ → Automaton → List ℕ → Type 0
GivesReversedClasses d classes e others = (w : List ℕ) → IsWord (letters_of d) w → class_after e others w ≡ class_after d classes (reverse w)

-- with what follows one of the two words, it has reversed the class that the other has with it
abbrev pub SameReversedClassAfter : Automaton → List ℕ → List ℕ → List ℕ → Type 0
SameReversedClassAfter d classes w v = (u : List ℕ) → IsWord (letters_of d) u → class_after d classes (reverse (w ++ u)) ≡ class_after d classes (reverse (v ++ u))
