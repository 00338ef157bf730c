-- The deterministic automaton of a functional list.
use Rattle.std.specs.Prelude.{◌≡◌, ℕ, ◌<◌, ◌↔◌, true, List, length, Some}
use Rattle.std.specs.List.{AllZip}
use Rattle.digit_tuple.specs.Deterministic.{Automaton, states_of, accepting_of, step_of, run_of}
use Rattle.digit_tuple.specs.Letters.{code_of}
use Rattle.dfa_reading.specs.Branching.{IsLetterOfDigits}
use Rattle.dfa_reading.specs.Listed.{Listed, Moves, MovesAlong}

-- The automaton over the letters of tracks of these sizes has the listed states, each accepting, and leads by the letter of a tuple as
-- the listed transitions lead by the tuple.
pub record IsTableOf (sizes : List ℕ) (listed : Listed) (d : Automaton) : Type 0 where
  pub sizes_are : d.sizes ≡ sizes
  pub states : states_of d ≡ length listed.outputs
  pub accepting : (q : ℕ) → q < states_of d → accepting_of d q ≡ true
  pub steps : (p letter q : ℕ) → (step_of d p letter ≡ Some q) ↔ ((tuple : List ℕ) × Moves sizes listed p tuple q × (letter ≡ code_of sizes tuple))

-- it leads by the word of the letters of some tuples as the listed transitions lead by the tuples
abbrev pub TableMovesAlong : Type 0
TableMovesAlong = (sizes : List ℕ) (listed : Listed) (d : Automaton) → IsTableOf sizes listed d → (p q : ℕ) (tuples : List (List ℕ)) (letters : List ℕ) → AllZip (IsLetterOfDigits sizes) tuples letters → (run_of d p letters ≡ Some q) ↔ MovesAlong sizes listed p tuples q
