use Rattle.std.proofs.Common.{refl, arith}
use Rattle.wal_outside.specs.Memory.{sure_left}
use Rattle.script_runs.proofs.WholeTexts.{text_through, text_ended}
use Rattle.script_runs.proofs.text_run.run_text.Goals as goal

pub returns-in-Ok : goal.returns-in-Ok
returns-in-Ok g c = rw c.new-source.ensures at (text_through _ _ _ _ _ _ _ (sure_left c.new-source.result) (sure_left c.answer_script.new.script) refl refl c.in-Ok.tally c.status.result c.status.ensures c.in-Ok.ensures)

pub returns : goal.returns
returns g c = rw c.new-source.ensures at (text_ended _ _ _ _ _ _ _ (sure_left c.new-source.result) (sure_left c.answer_script.new.script) refl refl _ (λ rose. omega (arith, rose)) c.in-Err.ensures)
