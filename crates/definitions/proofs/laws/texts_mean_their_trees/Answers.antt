use Rattle.definitions.proofs.TextMeanings.{text_means}
use Rattle.definitions.proofs.laws.texts_mean_their_trees.Goals as goal

pub returns : goal.returns
returns c = text_means
