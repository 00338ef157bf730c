use Rattle.std.proofs.Common.{◌≡◌, ◌++◌, map, take}
use Rattle.digit_tuple.specs.declared.transitions.Transition.{Transition}
use Rattle.residual_classes.proofs.transition_letters.add_letters.Given as goal

abbrev pub invariant-loop-transition : goal.invariant-loop-transition
invariant-loop-transition l = l.letters.items ≡ l.fn.letters.items ++ map (λ (e : Transition). e.letter) (take l.transition-index l.row)
