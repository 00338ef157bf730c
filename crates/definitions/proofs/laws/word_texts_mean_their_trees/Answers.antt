use Rattle.definitions.proofs.WordTexts.{word_text_means}
use Rattle.definitions.proofs.laws.word_texts_mean_their_trees.Goals as goal

pub returns : goal.returns
returns c = word_text_means
