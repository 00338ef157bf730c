use Rattle.std.proofs.Common.{◌≡◌}
use Rattle.digit_tuple.specs.Rows.{branches_in}
use Rattle.pad_rename.proofs.SameBranches.{rows_to}
use Rattle.pad_rename.proofs.same_branching.same_branching.Given as goal

abbrev pub invariant-loop-state : goal.invariant-loop-state
invariant-loop-state l = branches_in l.rows.items ≡ rows_to l.d l.state
