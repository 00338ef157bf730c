use Rattle.std.proofs.Common.{◌++◌, codes, decimal}
use Rattle.std.proofs.lemmas.Result.{err_from_is_err_and}
use Rattle.wal_outside.proofs.SendingSteps.{sends_then, sends_cut}
use Rattle.command_parts.specs.Lines.{detail}
use Rattle.command_parts.proofs.lines.send_fault.Goals as goal

pub returns-in_err-send_two : goal.returns-in_err-send_two
returns-in_err-send_two g c =
    let p = err_from_is_err_and c.from_residual.result c.from_residual.ensures.1 in
    rw (p.1, p.2) (sends_cut _ _ (codes "error " ++ decimal c.args.line) (detail c.args.fault.now ++ codes "\n") _ (rw (c.as_bytes.ensures.value, c.format.ensures.text) at c.in_err-send_two.ensures))

pub returns-in_err-send_detail : goal.returns-in_err-send_detail
returns-in_err-send_detail g c =
    let p = err_from_is_err_and c.from_residual-in_err-send_detail.result c.from_residual-in_err-send_detail.ensures.1 in
    rw (p.1, p.2) (sends_then _ _ _ (codes "error " ++ decimal c.args.line) (detail c.args.fault.now ++ codes "\n") _ (rw (c.as_bytes.ensures.value, c.format.ensures.text) at c.in_ok-send_two.ensures)
    (sends_cut _ _ (detail c.args.fault.now) (codes "\n") _ c.in_err-send_detail.ensures))

pub returns : goal.returns
returns g c =
    sends_then _ _ _ (codes "error " ++ decimal c.args.line) (detail c.args.fault.now ++ codes "\n") c.send.result (rw (c.as_bytes.ensures.value, c.format.ensures.text) at c.in_ok-send_two.ensures)
    (sends_then _ _ _ (detail c.args.fault.now) (codes "\n") c.send.result c.in_ok-send_detail.ensures c.send.ensures.sent)
