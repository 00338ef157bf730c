use Rattle.number_order.proofs.OrderWidthLemmas.{order_width_excludes}
use Rattle.number_order.proofs.laws.width_excludes_refusal.Goals as goal

pub returns : goal.returns
returns c = order_width_excludes
