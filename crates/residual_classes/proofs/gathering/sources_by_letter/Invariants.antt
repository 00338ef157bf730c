use Rattle.std.proofs.Common.{◌≡◌, ◌+◌, ◌≤◌, take}
use Rattle.std.specs.List.{flat_map, sum_by}
use Rattle.residual_classes.specs.ReversedTransitions.{in_degree, transitions_into}
use Rattle.residual_classes.proofs.gathering.sources_by_letter.Given as goal

abbrev pub invariant-loop-state : goal.invariant-loop-state
invariant-loop-state g l = record {
  transitions : l.transitions.items ≡ flat_map (transitions_into l.reversed) (take l.state-index l.set);
  looks : l.looks ≤ l.fn.looks + sum_by (in_degree l.reversed) (take l.state-index l.set);
}
