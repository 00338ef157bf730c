use Rattle.word_output.proofs.LetterEquality.{letter_functions}
use Rattle.letter_reversal.proofs.ReversedLetters.{reversal_outcome}
use Rattle.letter_reversal.proofs.laws.letter_reversals_have_one_outcome.Goals as goal

pub returns : goal.returns
returns c = reversal_outcome letter_functions
