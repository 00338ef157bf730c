use Rattle.formula_resolve.proofs.ConsistentLemmas.{no_clash_is_consistent}
use Rattle.formula_resolve.proofs.laws.no_clash_is_consistent.Goals as goal

pub returns : goal.returns
returns c = no_clash_is_consistent
