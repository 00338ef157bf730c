use Rattle.number_relations.proofs.ConstantRelations.{constant_holds, constant_is}
use Rattle.number_relations.proofs.StepOutcomes.{constant_one}
use Rattle.number_relations.proofs.step_laws.constants_hold.Goals as goal

pub returns-clause-holds : goal.returns-clause-holds
returns-clause-holds c system number name r n sealed made = constant_holds system number name r sealed made n

pub returns-clause-relation : goal.returns-clause-relation
returns-clause-relation c system number name r sealed made = constant_is system number name r sealed made

pub returns-clause-one : goal.returns-clause-one
returns-clause-one c = constant_one
