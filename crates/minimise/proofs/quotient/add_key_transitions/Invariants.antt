use Rattle.std.proofs.Common.{◌≡◌, ◌++◌, take, map}
use Rattle.residual_classes.specs.ClassTransitions.{class_transitions}
use Rattle.minimise.specs.Quotient.{key_transition}
use Rattle.minimise.proofs.quotient.add_key_transitions.Given as goal

abbrev pub invariant-loop-transition : goal.invariant-loop-transition
invariant-loop-transition l = l.out ≡ l.fn.out ++ map key_transition (class_transitions l.classes l.dead (take l.transition-index l.transitions))
