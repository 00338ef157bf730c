use Rattle.number_relations.proofs.ReadingLemmas.{readings, readings_are}
use Rattle.number_relations.proofs.StepOutcomes.{reading_one}
use Rattle.number_relations.proofs.step_laws.readings_hold.Goals as goal

pub returns-clause-holds : goal.returns-clause-holds
returns-clause-holds c = readings

pub returns-clause-relation : goal.returns-clause-relation
returns-clause-relation c = readings_are

pub returns-clause-one : goal.returns-clause-one
returns-clause-one c = reading_one
