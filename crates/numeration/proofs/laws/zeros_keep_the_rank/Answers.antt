use Rattle.numeration.proofs.RankLemmas.{rank-pad}
use Rattle.numeration.proofs.laws.zeros_keep_the_rank.Goals as goal

pub returns : goal.returns
returns c = rank-pad
