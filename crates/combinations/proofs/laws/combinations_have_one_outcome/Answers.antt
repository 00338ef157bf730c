use Rattle.combinations.proofs.OutcomeLemmas.{one_outcome}
use Rattle.combinations.proofs.laws.combinations_have_one_outcome.Goals as goal

pub returns : goal.returns
returns c = one_outcome
