use Rattle.numeration.proofs.RankLemmas.{less_is_rank}
use Rattle.numeration.proofs.laws.ranks_are_in_order.Goals as goal

pub returns : goal.returns
returns c = less_is_rank
