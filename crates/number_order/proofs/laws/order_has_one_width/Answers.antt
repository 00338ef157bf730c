use Rattle.number_order.proofs.OrderWidthLemmas.{one_order_width}
use Rattle.number_order.proofs.laws.order_has_one_width.Goals as goal

pub returns : goal.returns
returns c = one_order_width
