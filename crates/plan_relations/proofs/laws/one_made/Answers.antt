use Rattle.plan_relations.proofs.OneMadeLemmas.{one_made}
use Rattle.plan_relations.proofs.laws.one_made.Goals as goal

pub returns : goal.returns
returns c = one_made
