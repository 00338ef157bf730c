use Rattle.std.proofs.Common.{◌≡◌, length, take}
use Rattle.digit_tuple.specs.DfaRows.{states_in}
use Rattle.digit_tuple.specs.Rows.{branches_in}
use Rattle.dfa_reading.specs.BranchRows.{states_of_rows}
use Rattle.dfa_reading.proofs.listed_table.states.Given as goal

abbrev pub invariant-loop-row : goal.invariant-loop-row
invariant-loop-row l = states_in l.states.items ≡ states_of_rows (branches_in (take (length l.yielded) l.fn.rows.items))
