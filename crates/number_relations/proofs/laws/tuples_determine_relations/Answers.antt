use Rattle.number_relations.proofs.RelationLemmas.{tuples_determine}
use Rattle.number_relations.proofs.laws.tuples_determine_relations.Goals as goal

pub returns : goal.returns
returns c = tuples_determine
