use Rattle.reg_steps.proofs.OneRegex.{regex_one}
use Rattle.reg_steps.proofs.laws.regex_has_one_outcome.Goals as goal

pub returns : goal.returns
returns c = regex_one
