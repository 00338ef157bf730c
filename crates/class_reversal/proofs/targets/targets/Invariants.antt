use Rattle.class_reversal.proofs.TargetLemmas.{AreTargetsBelow}
use Rattle.class_reversal.proofs.targets.targets.Given as goal

abbrev pub invariant-loop-letter : goal.invariant-loop-letter
invariant-loop-letter l = AreTargetsBelow l.dfa l.letter l.targets.items
