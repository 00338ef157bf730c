use Rattle.headlines.proofs.WordSteps as steps
use Rattle.headlines.proofs.word.images.Goals as goal

pub returns : goal.returns
returns c = steps.images
