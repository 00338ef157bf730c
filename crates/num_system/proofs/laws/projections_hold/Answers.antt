use Rattle.num_system.proofs.LinkLemmas.{projections}
use Rattle.num_system.proofs.laws.projections_hold.Goals as goal

pub returns : goal.returns
returns c = projections
