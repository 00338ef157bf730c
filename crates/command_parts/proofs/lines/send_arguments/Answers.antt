use Rattle.std.proofs.Common.{◌++◌, codes, decimal}
use Rattle.std.proofs.lemmas.Result.{err_from_is_err_and}
use Rattle.wal_outside.proofs.SendingSteps.{sends_then, sends_cut}
use Rattle.command_parts.proofs.lines.send_arguments.Goals as goal

pub returns-in_err-send_four : goal.returns-in_err-send_four
returns-in_err-send_four g c =
    let p = err_from_is_err_and c.from_residual.result c.from_residual.ensures.1 in
    rw (p.1, p.2) (sends_cut _ _ ((codes ": F08 MacroArgs " ++ c.args.name.now) ++ (codes " " ++ decimal c.args.place)) (codes " " ++ decimal c.args.given) _ (rw (c.as_bytes.ensures, c.as_bytes-2.ensures.value, c.format.ensures.text) at c.in_err-send_four.ensures))

pub returns : goal.returns
returns g c = sends_then _ _ _ ((codes ": F08 MacroArgs " ++ c.args.name.now) ++ (codes " " ++ decimal c.args.place)) (codes " " ++ decimal c.args.given) c.send_two.result (rw (c.as_bytes.ensures, c.as_bytes-2.ensures.value, c.format.ensures.text) at c.in_ok-send_four.ensures) (rw (c.as_bytes-3.ensures.value, c.format-2.ensures.text) at c.send_two.ensures)
