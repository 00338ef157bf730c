use Rattle.definitions.proofs.WordLetters.{file_is_word}
use Rattle.definitions.proofs.words.files_are_words.Goals as goal

pub returns : goal.returns
returns c = file_is_word
