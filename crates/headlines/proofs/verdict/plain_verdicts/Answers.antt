use Rattle.headlines.proofs.VerdictSteps.{plain_verdicts_say}
use Rattle.headlines.proofs.verdict.plain_verdicts.Goals as goal

pub returns : goal.returns
returns c = plain_verdicts_say
