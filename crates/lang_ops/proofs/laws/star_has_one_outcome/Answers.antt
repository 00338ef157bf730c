use Rattle.lang_ops.proofs.OneResults.{star_one}
use Rattle.lang_ops.proofs.laws.star_has_one_outcome.Goals as goal

pub returns : goal.returns
returns c = star_one
