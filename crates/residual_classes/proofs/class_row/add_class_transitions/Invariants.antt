use Rattle.std.proofs.Common.{◌≡◌, ◌++◌, take}
use Rattle.residual_classes.specs.ClassTransitions.{class_transitions}
use Rattle.residual_classes.proofs.class_row.add_class_transitions.Given as goal

abbrev pub invariant-loop-transition : goal.invariant-loop-transition
invariant-loop-transition l = l.row.items ≡ l.fn.row.items ++ class_transitions l.classes l.dead (take l.transition-index l.transitions)
