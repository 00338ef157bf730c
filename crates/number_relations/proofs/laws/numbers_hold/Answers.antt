use Rattle.number_relations.proofs.LawLemmas.{numbers, one_number}
use Rattle.number_relations.proofs.laws.numbers_hold.Goals as goal

pub returns-clause-holds : goal.returns-clause-holds
returns-clause-holds c = numbers

pub returns-clause-one : goal.returns-clause-one
returns-clause-one c = one_number
