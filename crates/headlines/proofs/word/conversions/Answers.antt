use Rattle.headlines.proofs.WordSteps as steps
use Rattle.headlines.proofs.word.conversions.Goals as goal

pub returns : goal.returns
returns c = steps.conversions
