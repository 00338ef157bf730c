use Rattle.number_relations.proofs.ProjectLemmas.{projection_holds, projection_is}
use Rattle.number_relations.proofs.StepOutcomes.{project_one}
use Rattle.number_relations.proofs.step_laws.projections_hold.Goals as goal

pub returns-clause-holds : goal.returns-clause-holds
returns-clause-holds c track a r ns is_a made count = projection_holds track a r is_a made ns count

pub returns-clause-relation : goal.returns-clause-relation
returns-clause-relation c track a r is_a made = projection_is track a r is_a made

pub returns-clause-one : goal.returns-clause-one
returns-clause-one c = project_one
