use Rattle.place_text.proofs.ReadingSteps.{parsed}
use Rattle.place_text.proofs.place.Place.parse.Goals as goal

pub returns-clause-place : goal.returns-clause-place
returns-clause-place c = parsed c.args.text.now c.read.result c.read.ensures.place
