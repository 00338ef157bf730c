use Rattle.word_output.proofs.PairPlaces.{pairs}
use Rattle.word_output.proofs.laws.pairs_hold.Goals as goal

pub returns : goal.returns
returns c = pairs
