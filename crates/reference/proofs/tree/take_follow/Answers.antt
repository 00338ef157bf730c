use Rattle.reference.proofs.TreeSteps.{passes_follow}
use Rattle.reference.proofs.tree.take_follow.Goals as goal

pub returns-in_default : goal.returns-in_default
returns-in_default c = passes_follow c.args.waiting.now.items c.pop_two.new.waiting.items c.in_default.ensures.1 c.in_default.ensures.0
