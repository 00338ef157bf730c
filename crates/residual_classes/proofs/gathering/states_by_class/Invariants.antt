use Rattle.std.proofs.Common.{◌≡◌, take}
use Rattle.residual_classes.specs.Gathering.{transitions_by_class}
use Rattle.residual_classes.proofs.gathering.states_by_class.Given as goal

abbrev pub invariant-loop-state : goal.invariant-loop-state
invariant-loop-state l = l.transitions.items ≡ transitions_by_class l.classes (take l.state-index l.set)
