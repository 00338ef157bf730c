use Rattle.word_output.proofs.StepOutcomes.{pair_outcome}
use Rattle.word_output.proofs.laws.pairs_have_one_outcome.Goals as goal

pub returns : goal.returns
returns c = pair_outcome
