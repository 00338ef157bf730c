use Rattle.number_order.proofs.OrderWidthLemmas.{IsEquivalence-order}
use Rattle.number_order.proofs.laws.kinds_are_classes.Goals as goal

pub returns : goal.returns
returns c = IsEquivalence-order
