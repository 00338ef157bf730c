use Rattle.lang_ops.proofs.OneResults.{concat_one}
use Rattle.lang_ops.proofs.laws.concat_has_one_outcome.Goals as goal

pub returns : goal.returns
returns c = concat_one
