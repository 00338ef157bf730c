use Rattle.number_relations.proofs.JoinLemmas.{join_holds, join_is}
use Rattle.number_relations.proofs.StepOutcomes.{join_one}
use Rattle.number_relations.proofs.step_laws.joins_hold.Goals as goal

pub returns-clause-holds : goal.returns-clause-holds
returns-clause-holds c op a b r ns is_a is_b agree direction bound made count = join_holds a b is_a is_b agree direction op r bound made ns count

pub returns-clause-relation : goal.returns-clause-relation
returns-clause-relation c op a b r is_a is_b agree direction bound made = join_is a b is_a is_b agree direction op r bound made

pub returns-clause-one : goal.returns-clause-one
returns-clause-one c = join_one
