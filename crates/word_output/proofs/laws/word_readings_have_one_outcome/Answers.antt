use Rattle.word_output.proofs.LetterEquality.{letter_functions}
use Rattle.word_output.proofs.OneWords.{one_readings}
use Rattle.word_output.proofs.laws.word_readings_have_one_outcome.Goals as goal

pub returns : goal.returns
returns c = one_readings letter_functions
