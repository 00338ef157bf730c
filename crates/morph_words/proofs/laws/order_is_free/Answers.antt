use Rattle.morph_words.proofs.Maps.{order_is_free}
use Rattle.morph_words.proofs.laws.order_is_free.Goals as goal

pub returns : goal.returns
returns c = order_is_free
