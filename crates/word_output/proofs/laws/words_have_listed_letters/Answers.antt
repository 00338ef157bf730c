use Rattle.word_output.proofs.WordSteps.{words_listed}
use Rattle.word_output.proofs.laws.words_have_listed_letters.Goals as goal

pub returns : goal.returns
returns c = words_listed
