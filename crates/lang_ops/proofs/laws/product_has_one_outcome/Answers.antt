use Rattle.lang_ops.proofs.OneResults.{product_one}
use Rattle.lang_ops.proofs.laws.product_has_one_outcome.Goals as goal

pub returns : goal.returns
returns c = product_one
