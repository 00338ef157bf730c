-- The step that makes the letter function of what a word's file lists.
use Rattle.std.specs.Prelude.{◌≡◌, ◌↔◌, ℕ, ℤ, List, Some}
use Rattle.std.specs.List.{AllZip}
use Rattle.digit_tuple.specs.declared.kind.Kind.TheVariants as kinds
use Rattle.dfa_reading.specs.Branching.{IsLetterOfDigits}
use Rattle.dfa_reading.specs.Listed.{Listed, MovesAlong, output_of}
use Rattle.automaton_steps.specs.Makings.{Making}
use Rattle.word_output.specs.LetterFunctions.{LetterFunctionValue, IsLetterFunction, letter_after}

-- a path of listed transitions by these tuples ends in a state with this letter
abbrev pub HasListedLetter : List ℕ → Listed → List (List ℕ) → ℤ → Type 0
HasListedLetter sizes listed tuples letter = (q : ℕ) × MovesAlong sizes listed 0 tuples q × (output_of listed q ≡ Some letter)

-- the word, letter by letter that of a tuple, leads along listed transitions to the state
pub record LeadsListed (sizes : List ℕ) (listed : Listed) (w : List ℕ) (q : ℕ) : Type 0 where
  pub tuples : List (List ℕ)
  pub letters : AllZip (IsLetterOfDigits sizes) tuples w
  pub path : MovesAlong sizes listed 0 tuples q

-- both words lead to the same listed states
abbrev pub ListedAlike : List ℕ → Listed → List ℕ → List ℕ → Type 0
ListedAlike sizes listed w v = (q : ℕ) → LeadsListed sizes listed w q ↔ LeadsListed sizes listed v q

-- the letters of words are those that are listed
pub record IsLetterReading (sizes : List ℕ) (listed : Listed) (f : LetterFunctionValue) : Type 0 where
  pub sizes_are : f.automaton.sizes ≡ sizes
  pub function : IsLetterFunction f
  pub letters : (tuples : List (List ℕ)) (w : List ℕ) (letter : ℤ) → AllZip (IsLetterOfDigits sizes) tuples w → (letter_after f w ≡ Some letter) ↔ HasListedLetter sizes listed tuples letter

-- the step: words are alike that lead to the same listed states
abbrev pub letter_read_step : List ℕ → Listed → Making LetterFunctionValue
letter_read_step sizes listed = record {
  step = record { kind = kinds.Read; sizes = sizes; alike = ListedAlike sizes listed };
  automaton_of = λ f. f.automaton;
  IsMade = IsLetterReading sizes listed;
}
