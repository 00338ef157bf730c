use Rattle.number_relations.proofs.RelationLemmas.{relations_decided}
use Rattle.number_relations.proofs.laws.relations_are_decided.Goals as goal

pub returns : goal.returns
returns c = relations_decided
