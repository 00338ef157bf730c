use Rattle.std.proofs.Common.{◌≡◌, ◌++◌, take, map}
use Rattle.digit_tuple.specs.declared.transitions.Transition.{Transition}
use Rattle.digit_tuple.proofs.key_transitions.add_targets.Given as goal

abbrev pub invariant-loop-transition : goal.invariant-loop-transition
invariant-loop-transition l = l.numbers.items ≡ l.fn.numbers.items ++ map (λ (transition : Transition). transition.target) (take l.transition-index l.transitions)
