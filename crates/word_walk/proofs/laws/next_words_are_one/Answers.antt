use Rattle.word_walk.proofs.FollowingLemmas.{next_words_are_one}
use Rattle.word_walk.proofs.laws.next_words_are_one.Goals as goal

pub returns : goal.returns
returns c = next_words_are_one
