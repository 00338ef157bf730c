use Rattle.headlines.proofs.BrokenSystems as steps
use Rattle.headlines.proofs.own_system.refused_systems.Goals as goal

pub returns : goal.returns
returns c = steps.refused_systems
