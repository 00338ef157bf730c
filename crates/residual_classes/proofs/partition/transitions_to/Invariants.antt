use Rattle.std.proofs.Common.{◌≡◌, ◌<◌, ◌^◌, take}
use Rattle.std.specs.List.{sum_by}
use Rattle.residual_classes.specs.ReversedTransitions.{in_degree}
use Rattle.residual_classes.proofs.partition.transitions_to.Given as goal

abbrev pub invariant-loop-state : goal.invariant-loop-state
invariant-loop-state l = sum_by (in_degree l.reversed) l.states < 2 ^ 32 → l.transitions ≡ sum_by (in_degree l.reversed) (take l.state-index l.states)
