use Rattle.constants.proofs.ConstantWidthLemmas.{one_constant_width}
use Rattle.constants.proofs.laws.constant_has_one_width.Goals as goal

pub returns : goal.returns
returns c = one_constant_width
