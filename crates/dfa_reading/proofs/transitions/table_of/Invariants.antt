use Rattle.std.proofs.Common.{◌≡◌, take}
use Rattle.dfa_reading.specs.Transitions.{IsTableOf, transitions_in}
use Rattle.dfa_reading.proofs.transitions.table_of.Given as goal

abbrev pub invariant-loop-transition : goal.invariant-loop-transition
invariant-loop-transition l = record {
  pattern : l.table.pattern ≡ l.digits;
  table : IsTableOf (transitions_in (take l.transition-index l.list)) l.table;
}
