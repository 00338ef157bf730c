use Rattle.script_runs.proofs.WholeTexts.{run_through, run_ended}
use Rattle.script_runs.proofs.running.run_script.Goals as goal

pub returns-in-Ok : goal.returns-in-Ok
returns-in-Ok g c = run_through _ _ _ _ _ _ _ c.in-Ok.tally c.status.result c.status.ensures c.in-Ok.ensures

pub returns-in-Err : goal.returns-in-Err
returns-in-Err g c = run_ended _ _ _ _ _ _ _ c.in-Err.status c.in-Err.ensures
