use Rattle.std.proofs.lemmas.Result.{err_from_is_err_and}
use Rattle.wal_outside.proofs.SendingSteps.{sends_then, sends_cut}
use Rattle.wal_outside.proofs.sending.send_two.Goals as goal

pub returns-in_err-send : goal.returns-in_err-send
returns-in_err-send g c =
    let p = err_from_is_err_and c.from_residual.result c.from_residual.ensures.1 in
    rw (p.1, p.2) (sends_cut _ _ c.args.first.now c.args.second.now _ c.in_err-send.ensures.sent)

pub returns : goal.returns
returns g c =
    sends_then _ _ _ c.args.first.now c.args.second.now c.send-2.result c.in_ok-send.ensures.sent c.send-2.ensures.sent
