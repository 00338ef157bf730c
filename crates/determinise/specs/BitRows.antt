-- Transitions as rows of bits.
use Rattle.std.specs.Prelude.{◌≡◌, ℕ, ◌+◌, ◌*◌, ◌/◌, ◌%◌, ◌^◌, ◌<◌, ◌≤◌, filter, length, map}
use Rattle.std.specs.List.{All, range_with_len}
use Rattle.digit_tuple.specs.declared.transitions.Transition.{Transition}
use Rattle.digit_tuple.specs.Automaton.{Branching, IsBranchTable, accepting_of, transitions_of, letters_of, states_of}
use Rattle.determinise.specs.declared.bit_words.BitWord.{BitWord}
use Rattle.determinise.specs.declared.bit_rows.BitRows.{BitRows}
use Rattle.determinise.specs.Bits.{bits_of, row_at, rows_in}

-- how many words the bits of so many states take
abbrev pub words_of : ℕ → ℕ
words_of states = (states + 31) / 32

-- a set of states as bits takes few words, and so do sets for each letter together
pub record HasFewWords (n : Branching) : Type 0 where
  pub each : words_of (states_of n) ≤ 32768
  pub together : letters_of n * words_of (states_of n) ≤ 32768

-- the bit of a transition's target, among the words of its letter
abbrev pub word_of : ℕ → Transition → BitWord
word_of width transition = record { place = transition.letter * width + transition.target / 32; bits = 2 ^ (transition.target % 32) }

-- the rows are those of the states, and the bits of accepting states are beside them
pub record AreBitRows (n : Branching) (r : BitRows) : Type 0 where
  pub table : IsBranchTable (letters_of n) n.states
  pub few_words : HasFewWords n
  pub letters : r.letters ≡ letters_of n
  pub width : r.width ≡ words_of (states_of n)
  pub count : length r.rows.items ≡ states_of n
  pub rows : (q : ℕ) → q < states_of n → row_at (rows_in r.rows.items) q ≡ map (word_of (words_of (states_of n))) (transitions_of n q)
  pub within : All (λ row. All (λ word. word.place < letters_of n * words_of (states_of n)) row.items) r.rows.items
  pub accepting : r.accepting.items ≡ bits_of (words_of (states_of n)) (filter (accepting_of n) (range_with_len 0 (states_of n)))
