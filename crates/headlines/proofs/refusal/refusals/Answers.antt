use Rattle.headlines.proofs.RefusalSteps as steps
use Rattle.headlines.proofs.refusal.refusals.Goals as goal

pub returns : goal.returns
returns c = steps.refusals
