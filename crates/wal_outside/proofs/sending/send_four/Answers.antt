use Rattle.std.proofs.Common.{◌++◌}
use Rattle.std.proofs.lemmas.Result.{err_from_is_err_and}
use Rattle.wal_outside.proofs.SendingSteps.{sends_then, sends_cut}
use Rattle.wal_outside.proofs.sending.send_four.Goals as goal

pub returns-in_err-send_two : goal.returns-in_err-send_two
returns-in_err-send_two g c =
    let p = err_from_is_err_and c.from_residual.result c.from_residual.ensures.1 in
    rw (p.1, p.2) (sends_cut _ _ (c.args.first.now ++ c.args.second.now) (c.args.third.now ++ c.args.fourth.now) _ c.in_err-send_two.ensures)

pub returns : goal.returns
returns g c =
    sends_then _ _ _ (c.args.first.now ++ c.args.second.now) (c.args.third.now ++ c.args.fourth.now) c.send_two-2.result c.in_ok-send_two.ensures c.send_two-2.ensures
