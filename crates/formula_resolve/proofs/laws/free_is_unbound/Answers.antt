use Rattle.formula_resolve.proofs.FreeLemmas.{free_is_unbound}
use Rattle.formula_resolve.proofs.laws.free_is_unbound.Goals as goal

pub returns : goal.returns
returns c = free_is_unbound
