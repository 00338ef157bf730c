use Rattle.definitions.proofs.ListedWords.{automata_list}
use Rattle.definitions.proofs.listings.automata_list_their_words.Goals as goal

pub returns : goal.returns
returns c = automata_list
