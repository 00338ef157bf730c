use Rattle.definitions.proofs.ListedWords.{texts_list}
use Rattle.definitions.proofs.listings.texts_list_as_their_trees.Goals as goal

pub returns : goal.returns
returns c = texts_list
