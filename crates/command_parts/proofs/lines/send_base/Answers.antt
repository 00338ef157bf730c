use Rattle.std.proofs.Common.{◌++◌, codes}
use Rattle.std.proofs.lemmas.Result.{err_from_is_err_and}
use Rattle.wal_outside.proofs.SendingSteps.{sends_then, sends_cut}
use Rattle.command_parts.specs.Lines.{names_text}
use Rattle.command_parts.proofs.lines.send_base.Goals as goal

pub returns-in_err-send_two : goal.returns-in_err-send_two
returns-in_err-send_two g c =
    let p = err_from_is_err_and c.from_residual.result c.from_residual.ensures.1 in
    rw (p.1, p.2) (sends_cut _ _ (codes ": F33 BaseNeeded " ++ c.args.name.now) (names_text c.args.systems.now) _ (rw c.as_bytes.ensures at c.in_err-send_two.ensures))

pub returns : goal.returns
returns g c = sends_then _ _ _ (codes ": F33 BaseNeeded " ++ c.args.name.now) (names_text c.args.systems.now) c.send_names.result (rw c.as_bytes.ensures at c.in_ok-send_two.ensures) (rw c.as_slice.ensures at c.send_names.ensures)
