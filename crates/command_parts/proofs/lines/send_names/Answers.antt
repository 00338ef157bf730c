use Rattle.std.proofs.lemmas.Result.{err_from_is_err_and}
use Rattle.wal_outside.proofs.SendingSteps.{none_sent}
use Rattle.command_parts.proofs.NamesSent.{name_sent, name_cut}
use Rattle.command_parts.proofs.lines.send_names.Goals as goal

pub loop-name-init : goal.loop-name-init
loop-name-init g c = none_sent _

pub loop-name-preserved : goal.loop-name-preserved
loop-name-preserved g c =
    name_sent _ _ _ c.args.names.now c.loop-name.name-index c.name-item.result _ c.loop-name-test.true c.name-item.is c.loop-name.invariant (rw c.as_bytes.ensures at c.in_ok-send_two.ensures)

pub returns-in_err-send_two : goal.returns-in_err-send_two
returns-in_err-send_two g c =
    let p = err_from_is_err_and c.from_residual.result c.from_residual.ensures.1 in
    rw (p.1, p.2) (name_cut _ _ _ c.args.names.now c.loop-name.name-index c.name-item.result _ c.loop-name-test.true c.name-item.is c.loop-name.invariant (rw c.as_bytes.ensures at c.in_err-send_two.ensures))
