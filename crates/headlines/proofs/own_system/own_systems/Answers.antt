use Rattle.headlines.proofs.SystemSteps as steps
use Rattle.headlines.proofs.own_system.own_systems.Goals as goal

pub returns : goal.returns
returns c = steps.own_systems
