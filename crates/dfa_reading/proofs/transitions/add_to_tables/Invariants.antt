use Rattle.std.proofs.Common.{◌≡◌, ◌++◌, map, take, drop}
use Rattle.dfa_reading.specs.StarTables.{StarTable, masked, with_target}
use Rattle.dfa_reading.proofs.transitions.add_to_tables.Given as goal

abbrev pub invariant-loop-place : goal.invariant-loop-place
invariant-loop-place l =
    l.tables.items ≡ map (λ (table : StarTable). with_target table (masked l.digits table.pattern) l.target) (take l.place l.initial.tables.items) ++ drop l.place l.initial.tables.items
