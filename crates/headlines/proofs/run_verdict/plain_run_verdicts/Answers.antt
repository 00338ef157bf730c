use Rattle.headlines.proofs.RunVerdictSteps.{plain_runs}
use Rattle.headlines.proofs.run_verdict.plain_run_verdicts.Goals as goal

pub returns : goal.returns
returns c = plain_runs
