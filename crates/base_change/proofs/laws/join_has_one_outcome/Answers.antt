use Rattle.base_change.proofs.OneResults.{join_outcome, join_width}
use Rattle.base_change.proofs.laws.join_has_one_outcome.Goals as goal

pub returns-clause-width : goal.returns-clause-width
returns-clause-width c = join_width

pub returns-clause-outcome : goal.returns-clause-outcome
returns-clause-outcome c = join_outcome
