use Rattle.std.proofs.Common.{◌≡◌, ◌++◌, map, take}
use Rattle.digit_tuple.specs.declared.transitions.Transition.{Transition}
use Rattle.residual_classes.proofs.flat_transitions.add_targets.Given as goal

abbrev pub invariant-loop-transition : goal.invariant-loop-transition
invariant-loop-transition l = l.targets.items ≡ l.fn.targets.items ++ map (λ (e : Transition). e.target) (take l.transition-index l.transitions)
