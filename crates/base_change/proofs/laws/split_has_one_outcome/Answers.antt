use Rattle.base_change.proofs.OneResults.{split_outcome, split_width}
use Rattle.base_change.proofs.laws.split_has_one_outcome.Goals as goal

pub returns-clause-width : goal.returns-clause-width
returns-clause-width c = split_width

pub returns-clause-outcome : goal.returns-clause-outcome
returns-clause-outcome c = split_outcome
