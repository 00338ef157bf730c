use Rattle.listings.proofs.WordLineLemmas.{words_have_tuples}
use Rattle.listings.proofs.laws.words_have_tuples.Goals as goal

pub returns : goal.returns
returns c = words_have_tuples
