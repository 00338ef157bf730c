use Rattle.definitions.proofs.ListedWords.{sentences_list}
use Rattle.definitions.proofs.listings.sentences_list_the_empty_word.Goals as goal

pub returns : goal.returns
returns c = sentences_list
