use Rattle.num_system.proofs.LinkLemmas.{complements}
use Rattle.num_system.proofs.laws.complements_hold.Goals as goal

pub returns : goal.returns
returns c = complements
