-- Letters by which states lead to sinks.
use Rattle.std.specs.Prelude.{◌≡◌, ◌≢◌, ℕ, ◌<◌, IsTrue, length}
use Rattle.std.specs.Option.{IfSome}
use Rattle.digit_tuple.specs.Deterministic.{Automaton, letters_of, states_of}
use Rattle.residual_classes.specs.Classes.{next_of}
use Rattle.product_op.specs.NextTables.{next_list}
use Rattle.product_op.specs.Readings.{IsReading, Reading, part_read, reading_in}
use Rattle.product_op.specs.declared.reader_at.ReaderAt.{ReaderAt}

-- the letter leads the automaton from the state to its sink
abbrev pub LeadsOut : Reading → ℕ → ℕ → Type 0
LeadsOut r state a = next_of r.automaton state (part_read r a) ≡ states_of r.automaton

-- each letter leads on from the state
abbrev pub AllLeadOn : Automaton → ℕ → Type 0
AllLeadOn d state = (letter : ℕ) → letter < letters_of d → next_of d state letter ≢ states_of d

-- the row, if it is kept, is that of the state, and each letter leads on where that is said
pub record IsReaderAt (at : ReaderAt) : Type 0 where
  pub reading : IsReading (length at.reader.now.parts) (reading_in at.reader.now)
  pub row : IfSome at.row (λ row. row.now ≡ next_list at.reader.now.dfa.now at.state)
  pub leads_on : IsTrue at.leads_on → AllLeadOn at.reader.now.dfa.now at.state
