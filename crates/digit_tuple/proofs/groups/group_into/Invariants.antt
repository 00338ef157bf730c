use Rattle.std.proofs.Common.{◌-◌, ◌≤◌, length, take}
use Rattle.digit_tuple.specs.Groups.{AreGroups}
use Rattle.digit_tuple.proofs.GroupLemmas.{IsParted}
use Rattle.digit_tuple.proofs.groups.group_into.Given as goal

abbrev pub invariant-loop-place : goal.invariant-loop-place
invariant-loop-place l = record {
  within : l.place ≤ length l.transitions;
  groups : AreGroups (take l.place l.transitions) l.out;
  parted : IsParted l.transitions l.place;
}

abbrev pub decreases-loop-place : goal.decreases-loop-place
decreases-loop-place l = length l.transitions - l.place
