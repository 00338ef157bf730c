use Rattle.std.proofs.Common.{◌≡◌}
use Rattle.std.specs.List.{flat_map, range_with_len}
use Rattle.product_op.specs.NextTables.{next_list}
use Rattle.product_op.proofs.next_table.all_rows.Given as goal

abbrev pub invariant-loop-state : goal.invariant-loop-state
invariant-loop-state l = l.next.items ≡ flat_map (next_list l.dfa) (range_with_len 0 l.state)
