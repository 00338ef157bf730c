use Rattle.word_walk.proofs.FollowingLemmas.{walks_compose}
use Rattle.word_walk.proofs.laws.walks_compose.Goals as goal

pub returns : goal.returns
returns c = walks_compose
