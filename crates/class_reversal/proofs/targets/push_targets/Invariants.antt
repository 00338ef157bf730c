use Rattle.std.proofs.Common.{◌≡◌, ◌++◌, map}
use Rattle.std.specs.List.{range_with_len}
use Rattle.residual_classes.specs.Classes.{next_of}
use Rattle.class_reversal.proofs.targets.push_targets.Given as goal

abbrev pub invariant-loop-state : goal.invariant-loop-state
invariant-loop-state l = l.targets.items ≡ l.initial.targets.items ++ map (λ q. next_of l.dfa q l.letter) (range_with_len 0 l.state)
