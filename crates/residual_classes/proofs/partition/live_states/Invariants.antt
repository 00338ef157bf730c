use Rattle.residual_classes.proofs.OffClassLemmas.{AreOffTo}
use Rattle.residual_classes.proofs.partition.live_states.Given as goal

abbrev pub invariant-loop-place : goal.invariant-loop-place
invariant-loop-place l = AreOffTo l.classes l.dead l.states.items l.place
