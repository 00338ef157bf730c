use Rattle.base_change.proofs.RootLemmas.{related_in_one_way}
use Rattle.base_change.proofs.laws.bases_are_related_in_one_way.Goals as goal

pub returns : goal.returns
returns c = related_in_one_way
