use Rattle.dfa_reading.proofs.ReadWords.{word_files_list_words}
use Rattle.dfa_reading.proofs.laws.word_files_list_words.Goals as goal

pub returns : goal.returns
returns c = word_files_list_words
