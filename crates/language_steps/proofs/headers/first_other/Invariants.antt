use Rattle.std.proofs.Common.{List, ℕ, drop}
use Rattle.std.specs.List.{AllByRecursion}
use Rattle.dfa_reading.specs.Headers.{Sets}
use Rattle.language_steps.specs.Tables.{IsFirstUnlike, IsOverSets}
use Rattle.language_steps.proofs.headers.first_other.Given as goal

-- those before it are over the sets
abbrev pub invariant-loop-table : goal.invariant-loop-table
invariant-loop-table l = record {
  over : AllByRecursion (IsOverSets l.sets) (drop l.table-index l.tables) → AllByRecursion (IsOverSets l.sets) l.tables;
  unlike : (other : List ℕ) → IsFirstUnlike (Sets l.sets) (drop l.table-index l.tables) other → IsFirstUnlike (Sets l.sets) l.tables other;
}
