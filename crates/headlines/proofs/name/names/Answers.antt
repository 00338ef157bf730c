use Rattle.headlines.proofs.NameSteps as steps
use Rattle.headlines.proofs.name.names.Goals as goal

pub returns : goal.returns
returns c = steps.names
