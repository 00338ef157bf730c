use Rattle.word_walk.proofs.NearLemmas.{next_words_are_near}
use Rattle.word_walk.proofs.laws.next_words_are_near.Goals as goal

pub returns : goal.returns
returns c = next_words_are_near
