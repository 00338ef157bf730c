use Rattle.std.proofs.Common.{◌≡◌, map, take}
use Rattle.lang_ops.specs.ShiftedRows.{shifted_transition}
use Rattle.lang_ops.proofs.shifted_rows.shifted.Given as goal

abbrev pub invariant-loop-transition : goal.invariant-loop-transition
invariant-loop-transition l = l.row.items ≡ map (shifted_transition l.before) (take l.transition-index l.transitions)
