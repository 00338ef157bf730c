use Rattle.headlines.proofs.VerdictSteps.{verdicts_say}
use Rattle.headlines.proofs.verdict.verdicts.Goals as goal

pub returns : goal.returns
returns c = verdicts_say
