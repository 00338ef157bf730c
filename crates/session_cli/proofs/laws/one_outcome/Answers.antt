use Rattle.session_cli.proofs.OneOutcomes.{one_answer}
use Rattle.session_cli.proofs.laws.one_outcome.Goals as goal

pub returns : goal.returns
returns c = one_answer
