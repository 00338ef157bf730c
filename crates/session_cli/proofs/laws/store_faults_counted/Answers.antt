use Rattle.script_runs.proofs.OneRuns.{store_faults_are_counted}
use Rattle.session_cli.specs.SessionLanguage.{session_language}
use Rattle.session_cli.proofs.laws.store_faults_counted.Goals as goal

pub returns : goal.returns
returns c = λ limit stop. store_faults_are_counted (session_language limit stop)
