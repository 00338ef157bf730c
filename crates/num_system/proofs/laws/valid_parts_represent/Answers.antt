use Rattle.num_system.proofs.LinkLemmas.{represented_parts}
use Rattle.num_system.proofs.laws.valid_parts_represent.Goals as goal

pub returns : goal.returns
returns c = represented_parts
