use Rattle.reg_steps.proofs.OneRelation.{relation_one}
use Rattle.reg_steps.proofs.laws.relation_has_one_answer.Goals as goal

pub returns : goal.returns
returns c = relation_one
