use Rattle.number_relations.proofs.LawLemmas.{sums, one_sum}
use Rattle.number_relations.proofs.laws.sums_hold.Goals as goal

pub returns-clause-holds : goal.returns-clause-holds
returns-clause-holds c = sums

pub returns-clause-one : goal.returns-clause-one
returns-clause-one c = one_sum
