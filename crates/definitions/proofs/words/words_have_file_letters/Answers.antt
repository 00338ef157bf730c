use Rattle.definitions.proofs.WordLetters.{file_letters}
use Rattle.definitions.proofs.words.words_have_file_letters.Goals as goal

pub returns : goal.returns
returns c = file_letters c.words_have_listed_letters.ensures
