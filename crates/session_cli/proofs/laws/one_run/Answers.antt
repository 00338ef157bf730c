use Rattle.session_cli.proofs.OneRuns.{calls_alike}
use Rattle.session_cli.proofs.laws.one_run.Goals as goal

pub returns : goal.returns
returns c = calls_alike
