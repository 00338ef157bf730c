use Rattle.std.proofs.Common.{◌++◌, codes}
use Rattle.std.proofs.lemmas.Result.{err_from_is_err_and}
use Rattle.wal_outside.specs.Folders.{folder_text}
use Rattle.wal_outside.proofs.SendingSteps.{sends_then, sends_cut}
use Rattle.command_parts.specs.Lines.{flaw_text}
use Rattle.command_parts.proofs.lines.send_flawed.Goals as goal

pub returns-in_err-send_file : goal.returns-in_err-send_file
returns-in_err-send_file g c =
    let p = err_from_is_err_and c.from_residual.result c.from_residual.ensures.1 in
    rw (p.1, p.2) (sends_cut _ _ ((codes ": F12 File " ++ folder_text c.args.folder) ++ (codes "/" ++ c.args.name.now)) (flaw_text c.args.flaw) _ c.in_err-send_file.ensures)

pub returns : goal.returns
returns g c = sends_then _ _ _ ((codes ": F12 File " ++ folder_text c.args.folder) ++ (codes "/" ++ c.args.name.now)) (flaw_text c.args.flaw) c.send_flaw.result c.in_ok-send_file.ensures c.send_flaw.ensures
