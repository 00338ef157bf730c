use Rattle.reg_steps.proofs.RelationLemmas.{relation_made}
use Rattle.reg_steps.proofs.laws.steps_make_the_relation.Goals as goal

pub returns : goal.returns
returns c = relation_made
