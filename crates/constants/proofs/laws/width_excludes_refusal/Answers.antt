use Rattle.constants.proofs.ConstantWidthLemmas.{constant_width_excludes}
use Rattle.constants.proofs.laws.width_excludes_refusal.Goals as goal

pub returns : goal.returns
returns c = constant_width_excludes
