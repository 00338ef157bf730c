use Rattle.combinations.proofs.CombinedLemmas.{one_combined, some_combined}
use Rattle.combinations.proofs.laws.tuples_have_one_combined_letter.Goals as goal

pub returns-clause-some : goal.returns-clause-some
returns-clause-some c = some_combined

pub returns-clause-one : goal.returns-clause-one
returns-clause-one c = one_combined
