use Rattle.num_system.proofs.LinkLemmas.{products}
use Rattle.num_system.proofs.laws.products_hold.Goals as goal

pub returns : goal.returns
returns c = products
