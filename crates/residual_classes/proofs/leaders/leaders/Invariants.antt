use Rattle.residual_classes.specs.Leaders.{AreLeaders}
use Rattle.residual_classes.proofs.leaders.leaders.Given as goal

abbrev pub invariant-loop-state : goal.invariant-loop-state
invariant-loop-state l = AreLeaders l.classes l.leaders.items l.state
