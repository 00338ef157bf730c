use Rattle.numeration.proofs.RepresentLemmas.{representation}
use Rattle.numeration.proofs.laws.tuples_have_representations.Goals as goal

pub returns : goal.returns
returns c = representation
