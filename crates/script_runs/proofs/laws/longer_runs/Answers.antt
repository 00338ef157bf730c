use Rattle.script_runs.proofs.LongerRuns.{runs_begin_with_prefixes, runs_go_on_after, ended_runs_stay, runs_begin_alike}
use Rattle.script_runs.proofs.laws.longer_runs.Goals as goal

pub returns-clause-begin : goal.returns-clause-begin
returns-clause-begin g c = runs_begin_with_prefixes (g.A.Answering.language c.args._answering.now) (g.met.A.Answering.sound c.args._answering.now)

pub returns-clause-go_on : goal.returns-clause-go_on
returns-clause-go_on g c = runs_go_on_after (g.A.Answering.language c.args._answering.now) (g.met.A.Answering.sound c.args._answering.now)

pub returns-clause-ended : goal.returns-clause-ended
returns-clause-ended g c = ended_runs_stay (g.A.Answering.language c.args._answering.now) (g.met.A.Answering.sound c.args._answering.now)

pub returns-clause-alike : goal.returns-clause-alike
returns-clause-alike g c = runs_begin_alike (g.A.Answering.language c.args._answering.now) (g.met.A.Answering.sound c.args._answering.now)
