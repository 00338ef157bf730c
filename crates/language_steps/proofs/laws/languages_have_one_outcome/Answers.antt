use Rattle.language_steps.proofs.OneSteps.{language_one}
use Rattle.language_steps.proofs.laws.languages_have_one_outcome.Goals as goal

pub returns : goal.returns
returns c = language_one
