-- The laws of words that commands cite.
use Rattle.word_output.specs.Laws.{WordReadingsHaveOneOutcome}
use Rattle.word_output.proofs.LetterEquality.{letter_functions}
use Rattle.word_output.proofs.OneWords.{one_readings}
use Rattle.word_output.proofs.WordSteps.{words_listed}
use Rattle.definitions.specs.WordLaws.{WordsHaveFileLetters}
use Rattle.definitions.proofs.WordLetters.{file_letters}

-- the reading of a word has one outcome
pub one_word_outcome : WordReadingsHaveOneOutcome
one_word_outcome = one_readings letter_functions

-- a word that is read of a file has the letters of the file
pub words_have_file_letters : WordsHaveFileLetters
words_have_file_letters = file_letters words_listed
