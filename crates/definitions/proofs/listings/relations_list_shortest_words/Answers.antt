use Rattle.definitions.proofs.ListedWords.{relations_list}
use Rattle.definitions.proofs.listings.relations_list_shortest_words.Goals as goal

pub returns : goal.returns
returns c = relations_list
