use Rattle.definitions.proofs.LanguageMeanings.{language_text_means}
use Rattle.definitions.proofs.laws.language_texts_mean_their_trees.Goals as goal

pub returns : goal.returns
returns c = language_text_means
