use Rattle.std.proofs.Common.{◌≤◌, length, take}
use Rattle.digit_tuple.specs.Explored.{AreNumbered}
use Rattle.digit_tuple.proofs.exploration.number_transitions.Given as goal

abbrev pub invariant-loop-place : goal.invariant-loop-place
invariant-loop-place l = record {
  numbered : AreNumbered (take l.place l.key_transitions) l.transitions.items l.fn.keys l.keys;
  few : length l.keys ≤ l.limit.most;
}
