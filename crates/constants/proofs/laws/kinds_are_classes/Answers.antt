use Rattle.constants.proofs.ConstantWidthLemmas.{IsEquivalence-constant}
use Rattle.constants.proofs.laws.kinds_are_classes.Goals as goal

pub returns : goal.returns
returns c = IsEquivalence-constant
