use Rattle.digit_tuple.specs.Rows.{branches_in}
use Rattle.lang_ops.specs.LinkedRows.{AreLinkedRows}
use Rattle.lang_ops.proofs.linked_rows.linked_rows.Given as goal

abbrev pub invariant-loop-state : goal.invariant-loop-state
invariant-loop-state l = AreLinkedRows l.d l.link l.ends (branches_in l.rows.items) l.state
