use Rattle.numeration.proofs.RankLemmas.{strip_from_rank}
use Rattle.numeration.proofs.laws.ranks_determine_words.Goals as goal

pub returns : goal.returns
returns c = strip_from_rank
