use Rattle.std.proofs.Common.{◌≡◌, get_or, drop}
use Rattle.std.specs.List.{list_any}
use Rattle.dfa_reading.specs.StarTables.{StarTable, masked, targets_at, differs_from, no_table}
use Rattle.dfa_reading.proofs.transitions.leads_elsewhere.Given as goal

abbrev pub invariant-loop-table : goal.invariant-loop-table
invariant-loop-table l =
    list_any (λ (table : StarTable). differs_from (targets_at (get_or l.tables l.own no_table).entries (masked l.digits table.pattern)) l.target) (drop l.table-index l.tables)
    ≡ list_any (λ (table : StarTable). differs_from (targets_at (get_or l.tables l.own no_table).entries (masked l.digits table.pattern)) l.target) l.tables
