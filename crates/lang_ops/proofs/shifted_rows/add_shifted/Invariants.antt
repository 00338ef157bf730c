use Rattle.std.proofs.Common.{◌≡◌, ◌++◌}
use Rattle.digit_tuple.specs.Rows.{branches_in}
use Rattle.lang_ops.proofs.ShiftedRowLemmas.{shifted_to}
use Rattle.lang_ops.proofs.shifted_rows.add_shifted.Given as goal

abbrev pub invariant-loop-state : goal.invariant-loop-state
invariant-loop-state l = branches_in l.rows.items ≡ branches_in l.fn.rows.items ++ shifted_to l.d l.before l.state
