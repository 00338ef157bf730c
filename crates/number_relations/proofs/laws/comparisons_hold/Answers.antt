use Rattle.number_relations.proofs.LawLemmas.{comparisons, one_comparison}
use Rattle.number_relations.proofs.laws.comparisons_hold.Goals as goal

pub returns-clause-holds : goal.returns-clause-holds
returns-clause-holds c = comparisons

pub returns-clause-one : goal.returns-clause-one
returns-clause-one c = one_comparison
