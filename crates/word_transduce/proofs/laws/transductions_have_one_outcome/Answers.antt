use Rattle.word_output.proofs.LetterEquality.{letter_functions}
use Rattle.word_transduce.proofs.TransductionOutcomes.{transduction_outcome}
use Rattle.word_transduce.proofs.laws.transductions_have_one_outcome.Goals as goal

pub returns : goal.returns
returns c = transduction_outcome letter_functions
