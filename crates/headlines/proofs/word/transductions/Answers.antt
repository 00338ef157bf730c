use Rattle.headlines.proofs.WordSteps as steps
use Rattle.headlines.proofs.word.transductions.Goals as goal

pub returns : goal.returns
returns c = steps.transductions
