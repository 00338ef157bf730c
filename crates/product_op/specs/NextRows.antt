-- Where letters lead from states, as lists.
use Rattle.std.specs.Prelude.{◌≡◌, ℕ, ◌<◌, List, length, slice_index_or}
use Rattle.digit_tuple.specs.Deterministic.{Automaton}
use Rattle.product_op.specs.NextTables.{next_list}
use Rattle.product_op.specs.declared.next_row.NextRow.{NextRow}
use Rattle.product_op.specs.declared.next_row.NextRow.TheVariants.{Kept, Listed}
use Rattle.product_op.specs.Readings.{state_at}

-- the row has where each letter of the automaton leads from the state
abbrev pub IsNextRow : Automaton → ℕ → NextRow → Type 0
IsNextRow d state (Kept next) = next.now ≡ next_list d state
IsNextRow d state (Listed next) = next.items ≡ next_list d state

-- a row of each automaton's state in the key
pub record AreNextRows (automata : List Automaton) (key : List ℕ) (rows : List NextRow) : Type 0 where
  pub count : length rows ≡ length automata
  pub each : (i : ℕ) → i < length automata → (d : Automaton) (z : NextRow) → IsNextRow (slice_index_or automata i d) (state_at key i) (slice_index_or rows i z)
