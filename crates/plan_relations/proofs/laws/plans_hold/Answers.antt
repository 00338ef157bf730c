use Rattle.plan_relations.proofs.HoldLemmas.{plans_hold}
use Rattle.plan_relations.proofs.laws.plans_hold.Goals as goal

pub returns : goal.returns
returns c = plans_hold
