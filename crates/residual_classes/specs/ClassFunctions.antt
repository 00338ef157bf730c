-- The function from a word to the class of the state that it leads to. Class 0 says that the word has none, as where it leads nowhere.
use Rattle.std.specs.Prelude.{◌≡◌, ℕ, List, ◌++◌}
use Rattle.std.specs.Option.{option_map_or}
use Rattle.digit_tuple.specs.Deterministic.{Automaton, letters_of, run_of}
use Rattle.digit_tuple.specs.Letters.{IsWord}
use Rattle.residual_classes.specs.Classes.{class_of}

-- the class of the state that the word leads to from q
abbrev pub class_from : Automaton → List ℕ → ℕ → List ℕ → ℕ
class_from d classes q w = option_map_or (λ p. class_of classes p) (run_of d q w) 0

-- the class of the state that the word leads to
abbrev pub class_after : Automaton → List ℕ → List ℕ → ℕ
class_after d classes w = class_from d classes 0 w

-- each word over the alphabet has one class from p in d and from q in e
abbrev pub SameClassesFrom : Automaton → List ℕ → ℕ → Automaton → List ℕ → ℕ → Type 0
SameClassesFrom d classes p e others q = (w : List ℕ) → IsWord (letters_of d) w → class_from d classes p w ≡ class_from e others q w

-- each word over the alphabet has one class in both
abbrev pub SameClassFunction : Automaton → List ℕ → Automaton → List ℕ → Type 0
SameClassFunction d classes e others = SameClassesFrom d classes 0 e others 0

-- no word over the alphabet has a class from q
abbrev pub HasNoClassFrom : Automaton → List ℕ → ℕ → Type 0
HasNoClassFrom d classes q = (w : List ℕ) → IsWord (letters_of d) w → class_from d classes q w ≡ 0

-- what follows one of the two words has the class that it has after the other
abbrev pub SameClassAfter : Automaton → List ℕ → List ℕ → List ℕ → Type 0
SameClassAfter d classes w v = (u : List ℕ) → IsWord (letters_of d) u → class_after d classes (w ++ u) ≡ class_after d classes (v ++ u)
