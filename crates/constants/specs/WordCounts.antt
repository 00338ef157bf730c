-- How many words of a length lead from a state to acceptance, or from the initial state to a state.
use Rattle.std.specs.Prelude.{◌≡◌, ℕ, ◌-◌, ◌^◌, ◌<◌, Bool, false, List, Some, Vec, length, min, nat_eq, reverse, slice_get, slice_index_or}
use Rattle.std.specs.Global.{Global}
use Rattle.std.specs.List.{count_by}
use Rattle.std.specs.Option.{option_map_or}
use Rattle.digit_tuple.specs.Deterministic.{Automaton, accepts_from, run_of, letters_of, states_of}
use Rattle.digit_tuple.specs.declared.direction.Direction.{Direction}
use Rattle.digit_tuple.specs.declared.direction.Direction.TheVariants.{Msd, Lsd}
use Rattle.numeration.specs.Words.{words}

-- a number, or the greatest of 128 bits where it is above that
abbrev pub capped : ℕ → ℕ
capped n = min n (2 ^ 128 - 1)

-- whether the word leads from the initial state to the state
abbrev pub leads_to : Automaton → ℕ → List ℕ → Bool
leads_to a q w = option_map_or (λ p. nat_eq p q) (run_of a 0 w) false

-- how many words of a length go on from a state to acceptance, or, where the least significant digit comes first, come to it
abbrev pub words_at : Direction → Automaton → ℕ → ℕ → ℕ
words_at Msd a n q = count_by (λ u. accepts_from a q u) (words (letters_of a) n)
words_at Lsd a n q = count_by (λ u. leads_to a q (reverse u)) (words (letters_of a) n)

-- the row has the count of each state for words of the length
pub record AreCounts (direction : Direction) (a : Automaton) (n : ℕ) (row : List ℕ) : Type 0 where
  pub long : length row ≡ states_of a
  pub counts : (q : ℕ) → q < states_of a → slice_index_or row q 0 ≡ capped (words_at direction a n q)

-- each row has the counts for words as long as there are rows before it
abbrev pub AreRows : Direction → Automaton → List (Vec ℕ Global) → Type 0
AreRows direction a rows = (n : ℕ) (row : Vec ℕ Global) → slice_get rows n ≡ Some row → AreCounts direction a n row.items
