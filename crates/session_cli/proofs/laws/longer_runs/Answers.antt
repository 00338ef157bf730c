use Rattle.session_cli.proofs.LongerScripts.{longer_calls, sessions_begin_with_prefixes}
use Rattle.session_cli.proofs.laws.longer_runs.Goals as goal

pub returns-clause-alike : goal.returns-clause-alike
returns-clause-alike c = longer_calls

pub returns-clause-begin : goal.returns-clause-begin
returns-clause-begin c = sessions_begin_with_prefixes
