-- Automata that give words letters, as for positions of automatic words.
use Rattle.std.specs.Prelude.{◌≡◌, ◌==◌, ℕ, ◌+◌, ◌-◌, ◌<◌, ◌≤◌, ℤ, pos, ◌<ℤ◌, List, ◌++◌, length, map, slice_index_or, Option, None, Some, if◌then◌else◌}
use Rattle.std.specs.List.{All, AllPairs, Contains}
use Rattle.digit_tuple.specs.Deterministic.{Automaton, letters_of}
use Rattle.digit_tuple.specs.Letters.{IsWord}
use Rattle.residual_classes.specs.ClassFunctions.{class_after}
use Rattle.minimise.specs.Canonical.{IsCanonicalWithClasses}

-- An automaton, the class of each state, and the letters: class 1 has the first one, and so on; class 0 has none.
pub record LetterFunctionValue : Type 0 where
  pub automaton : Automaton
  pub classes : List ℕ
  pub letters : List ℤ

-- the letter of a class
abbrev pub letter_in : List ℤ → ℕ → Option ℤ
letter_in letters class = if class == 0 then None else Some (slice_index_or letters (class - 1) (pos 0))

-- the letter of each state, in their order
abbrev pub outputs_of : LetterFunctionValue → List (Option ℤ)
outputs_of f = map (letter_in f.letters) f.classes

-- the letter of the state that the word leads to; none where it leads nowhere, or to a state without a letter
abbrev pub letter_after : LetterFunctionValue → List ℕ → Option ℤ
letter_after f w = letter_in f.letters (class_after f.automaton f.classes w)

-- what follows one of the two words has the letter that it has after the other
abbrev pub SameLettersAfter : LetterFunctionValue → List ℕ → List ℕ → Type 0
SameLettersAfter f w v = (u : List ℕ) → IsWord (letters_of f.automaton) u → letter_after f (w ++ u) ≡ letter_after f (v ++ u)

-- both give each word the same letter, or none
abbrev pub SameLetterFunction : LetterFunctionValue → LetterFunctionValue → Type 0
SameLetterFunction f g = (w : List ℕ) → IsWord (letters_of f.automaton) w → letter_after f w ≡ letter_after g w

-- the letters ascend, each is that of some state, and the automaton is the one canonical automaton of its function
pub record IsLetterFunction (f : LetterFunctionValue) : Type 0 where
  pub canonical : IsCanonicalWithClasses f.automaton f.classes
  pub ascending : AllPairs (λ b c. b <ℤ c) f.letters
  pub within : All (λ class. class ≤ length f.letters) f.classes
  pub all : (place : ℕ) → place < length f.letters → Contains f.classes (place + 1)

-- canonical automata over the same tracks that give each word the same letter are equal
abbrev pub LetterFunctionsAreEqual : Type 0
LetterFunctionsAreEqual = (f g : LetterFunctionValue) → IsLetterFunction f → IsLetterFunction g → f.automaton.sizes ≡ g.automaton.sizes → SameLetterFunction f g → f ≡ g
