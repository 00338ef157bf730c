use Rattle.numeration.proofs.RepresentLemmas.{representations}
use Rattle.numeration.proofs.laws.representations_are_paddings.Goals as goal

pub returns : goal.returns
returns c = representations
