use Rattle.std.proofs.Common.{refl}
use Rattle.session_cli.specs.SessionLanguage.{session_language}
use Rattle.session_cli.specs.SoundLanguage.{session_is_sound}
use Rattle.session_cli.proofs.MadeSteps.{made_run, made_out, made_nothing}
use Rattle.session_cli.proofs.making.run_generated.Goals as goal

pub returns-in-Ok-run_text : goal.returns-in-Ok-run_text
returns-in-Ok-run_text g c = made_run (session_language c.args.answerer.session.limit c.args.answerer.stop) c.args.seed _ _ _ _ _ c.in-Ok.text.items c.in-Ok.ensures c.in-Ok-run_text.run' c.in-Ok-run_text.ensures c.print_run.ensures

pub returns-in-Err : goal.returns-in-Err
returns-in-Err g c = made_out (session_language c.args.answerer.session.limit c.args.answerer.stop) c.args.seed _ _ _ _ _ c.in-Ok.text.items c.in-Ok.ensures c.in-Err.ensures refl refl

pub returns-in_default : goal.returns-in_default
returns-in_default g c = made_nothing (session_language c.args.answerer.session.limit c.args.answerer.stop) c.args.seed _ _ _ _ _ (session_is_sound c.args.answerer.session.limit c.args.answerer.stop) refl refl refl
