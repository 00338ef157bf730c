use Rattle.numeration.proofs.RankLemmas.{rep_only}
use Rattle.numeration.proofs.laws.numbers_determine_words.Goals as goal

pub returns : goal.returns
returns c = λ s n w v is. rep_only s.digits s.test n w v is
