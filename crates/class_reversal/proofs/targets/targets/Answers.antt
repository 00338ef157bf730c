use Rattle.class_reversal.proofs.TargetLemmas.{AreTargetsBelow-more}
use Rattle.class_reversal.proofs.targets.targets.Goals as goal

pub loop-letter-preserved : goal.loop-letter-preserved
loop-letter-preserved c = AreTargetsBelow-more c.args.dfa.now c.loop-letter.letter c.loop-letter.targets.items c.push_targets.new.targets.items c.loop-letter.invariant c.in_ok-push_targets.ensures
