use Rattle.headlines.proofs.RunVerdictSteps.{runs}
use Rattle.headlines.proofs.run_verdict.run_verdicts.Goals as goal

pub returns : goal.returns
returns c = runs
