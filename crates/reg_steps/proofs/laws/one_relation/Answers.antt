use Rattle.reg_steps.proofs.RelationLemmas.{relation_is_one}
use Rattle.reg_steps.proofs.laws.one_relation.Goals as goal

pub returns : goal.returns
returns c = relation_is_one
