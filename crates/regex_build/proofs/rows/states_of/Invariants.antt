-- The states so far.
use Rattle.std.proofs.Common.{◌≡◌, length}
use Rattle.regex_build.specs.Rows.{AreStates}
use Rattle.regex_build.proofs.rows.states_of.Given as goal

abbrev pub invariant-loop-state : goal.invariant-loop-state
invariant-loop-state l = record { count : length l.states.items ≡ l.state; states : AreStates l.places l.ranges l.states.items }
