use Rattle.number_relations.proofs.LawLemmas.{placed, one_placed}
use Rattle.number_relations.proofs.laws.placed_holds.Goals as goal

pub returns-clause-holds : goal.returns-clause-holds
returns-clause-holds c = placed

pub returns-clause-one : goal.returns-clause-one
returns-clause-one c = one_placed
