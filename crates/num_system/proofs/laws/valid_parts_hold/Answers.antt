use Rattle.num_system.proofs.LinkLemmas.{valid_parts}
use Rattle.num_system.proofs.laws.valid_parts_hold.Goals as goal

pub returns : goal.returns
returns c = valid_parts
