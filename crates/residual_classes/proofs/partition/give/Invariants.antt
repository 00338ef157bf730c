use Rattle.std.proofs.Common.{take}
use Rattle.residual_classes.specs.Partition.{IsGiven}
use Rattle.residual_classes.proofs.partition.give.Given as goal

abbrev pub invariant-loop-state : goal.invariant-loop-state
invariant-loop-state l = IsGiven l.fn.classes.items l.classes.items (take l.state-index l.states) l.class
