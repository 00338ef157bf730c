use Rattle.number_relations.proofs.ComplementLemmas.{complement_holds, complement_is}
use Rattle.number_relations.proofs.StepOutcomes.{complement_one}
use Rattle.number_relations.proofs.step_laws.complements_hold.Goals as goal

pub returns-clause-holds : goal.returns-clause-holds
returns-clause-holds c a r ns is_a made count = complement_holds a is_a r made ns count

pub returns-clause-relation : goal.returns-clause-relation
returns-clause-relation c a r is_a made = complement_is a is_a r made

pub returns-clause-one : goal.returns-clause-one
returns-clause-one c = complement_one
