use Rattle.std.proofs.Common.{◌≡◌, map, take}
use Rattle.residual_classes.specs.Classes.{class_of}
use Rattle.class_reversal.proofs.backward_classes.push_classes.Given as goal

abbrev pub invariant-loop-state : goal.invariant-loop-state
invariant-loop-state l = l.classes.items ≡ map (class_of l.key) (take l.state-index l.states)
