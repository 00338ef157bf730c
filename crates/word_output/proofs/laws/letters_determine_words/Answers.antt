use Rattle.word_output.proofs.LetterEquality.{letter_functions}
use Rattle.word_output.proofs.PlaceLaws.{determined_by_letters}
use Rattle.word_output.proofs.laws.letters_determine_words.Goals as goal

pub returns : goal.returns
returns c = determined_by_letters letter_functions
