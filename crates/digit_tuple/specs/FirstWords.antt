-- States numbered by the first words that lead to them.
use Rattle.std.specs.Prelude.{◌≡◌, ℕ, ◌<◌, List, [], length, ◌⊎◌, Some, slice_index_or}
use Rattle.digit_tuple.specs.Deterministic.{Automaton, letters_of, states_of, run_of}
use Rattle.digit_tuple.specs.Letters.{IsWord}
use Rattle.digit_tuple.specs.Shortlex.{IsBefore, AreInOrder}

-- each state has a first word that leads to it, and the states are in the order of their first words
pub record IsNumberedByFirsts (d : Automaton) (firsts : List (List ℕ)) : Type 0 where
  pub count : length firsts ≡ states_of d
  pub over : (q : ℕ) → q < states_of d → IsWord (letters_of d) (slice_index_or firsts q [])
  pub lead : (q : ℕ) → q < states_of d → run_of d 0 (slice_index_or firsts q []) ≡ Some q
  pub least : (q : ℕ) (w : List ℕ) → IsWord (letters_of d) w → run_of d 0 w ≡ Some q → (slice_index_or firsts q [] ≡ w) ⊎ IsBefore (slice_index_or firsts q []) w
  pub ordered : AreInOrder firsts
