use Rattle.std.proofs.Common.{◌≡◌, ◌*◌, ◌<◌, ℕ, length, map}
use Rattle.std.specs.List.{All}
use Rattle.digit_tuple.specs.Automaton.{transitions_of, letters_of, states_of}
use Rattle.determinise.specs.Bits.{row_at, rows_in}
use Rattle.determinise.specs.BitRows.{word_of, words_of}
use Rattle.determinise.proofs.bit_rows.BitRows.of.Given as goal

abbrev pub invariant-loop-state : goal.invariant-loop-state
invariant-loop-state l = record {
  count : length l.rows.items ≡ l.state;
  rows : (q : ℕ) → q < l.state → row_at (rows_in l.rows.items) q ≡ map (word_of (words_of (states_of l.nfa))) (transitions_of l.nfa q);
  within : All (λ row. All (λ word. word.place < letters_of l.nfa * words_of (states_of l.nfa)) row.items) l.rows.items;
}
