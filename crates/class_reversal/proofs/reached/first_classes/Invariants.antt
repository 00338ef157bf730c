use Rattle.std.proofs.Common.{◌≡◌, map, take}
use Rattle.class_reversal.specs.BackwardClasses.{first_class}
use Rattle.class_reversal.proofs.reached.first_classes.Given as goal

abbrev pub invariant-loop-number : goal.invariant-loop-number
invariant-loop-number l = l.classes.items ≡ map first_class (take l.number l.keys)
