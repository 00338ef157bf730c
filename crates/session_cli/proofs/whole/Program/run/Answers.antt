use Rattle.std.proofs.Common.{refl, inl, inr}
use Rattle.script_runs.proofs.Statuses.{rose_of_outside}
use Rattle.session_cli.proofs.MadeSteps.{made_no_usage, made_outside, made_memory}
use Rattle.session_cli.proofs.WholeSteps.{served_run, served_made}
use Rattle.session_cli.proofs.whole.Program.run.Goals as goal

pub returns-in-None-clause-run : goal.returns-in-None-clause-run
returns-in-None-clause-run g c = inl (c.in-Ok.options, c.in-Ok.ensures, served_run c.in-Ok.options.limit c.in-Ok.options.stop c.in-Ok.options.seed c.session.result _ _ _ _ _ _ _ c.session.ensures c.in-None.is c.run_script.ensures)

pub returns-in-None-clause-refused : goal.returns-in-None-clause-refused
returns-in-None-clause-refused g c = λ refused. absurd (refused c.in-Ok.options c.in-Ok.ensures)

pub returns-in-None-clause-outside : goal.returns-in-None-clause-outside
returns-in-None-clause-outside g c = λ outside. rose_of_outside _ _ _ _ _ _ _ _ c.run_script.ensures outside

pub returns-in-Ok-clause-run : goal.returns-in-Ok-clause-run
returns-in-Ok-clause-run g c = inl (c.in-Ok.options, c.in-Ok.ensures, served_made c.in-Ok.options.limit c.in-Ok.options.stop c.in-Ok.options.seed c.session.result _ _ _ _ _ _ _ c.session.ensures c.in-Some.seed c.in-Some.is refl c.run_generated.ensures)

pub returns-in-Ok-clause-usage : goal.returns-in-Ok-clause-usage
returns-in-Ok-clause-usage g c = λ usage. absurd (made_no_usage _ _ _ _ _ _ _ c.run_generated.ensures usage)

pub returns-in-Ok-clause-refused : goal.returns-in-Ok-clause-refused
returns-in-Ok-clause-refused g c = λ refused. absurd (refused c.in-Ok.options c.in-Ok.ensures)

pub returns-in-Ok-clause-outside : goal.returns-in-Ok-clause-outside
returns-in-Ok-clause-outside g c = λ outside. inr (made_outside _ _ _ _ _ _ _ c.run_generated.ensures outside)

pub returns-in-Ok-clause-memory : goal.returns-in-Ok-clause-memory
returns-in-Ok-clause-memory g c = λ memory. (refl, made_memory _ _ _ _ _ _ _ c.run_generated.ensures memory)
