use Rattle.std.proofs.Common.{ℕ, ◌-◌, ◌<◌, ◌≤◌, [], length}
use Rattle.digit_tuple.specs.Deterministic.{letters_of, states_of}
use Rattle.constants.specs.Continuations.{read, continuations}
use Rattle.constants.specs.WordCounts.{AreCounts, AreRows}
use Rattle.constants.specs.Prefixes.{IsPrefix, Fits}
use Rattle.constants.proofs.representation.rows_past.Given as goal

abbrev pub invariant-loop-alloc : goal.invariant-loop-alloc
invariant-loop-alloc l = record {
  prefix : IsPrefix l.direction l.language [] l.prefix;
  fits : Fits (states_of l.language) l.prefix;
  counts : AreRows l.direction l.language l.rows.items;
  row : AreCounts l.direction l.language (length l.rows.items) l.row.items;
  least : (n : ℕ) → n < length l.rows.items → continuations (letters_of l.language) (read l.direction l.language) [] n ≤ l.number;
  within : length l.rows.items ≤ l.longest;
}

abbrev pub decreases-loop-alloc : goal.decreases-loop-alloc
decreases-loop-alloc l = l.longest - length l.rows.items
