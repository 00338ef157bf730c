use Rattle.numeration.proofs.RankLemmas.{rep_exists}
use Rattle.numeration.proofs.laws.numbers_have_words.Goals as goal

pub returns : goal.returns
returns c = λ s n is. rep_exists s.digits s.test n is
