use Rattle.word_output.proofs.LetterEquality.{letter_functions}
use Rattle.word_output.proofs.laws.letter_functions_are_equal.Goals as goal

pub returns : goal.returns
returns c = letter_functions
