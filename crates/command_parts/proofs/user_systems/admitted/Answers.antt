use Rattle.std.proofs.lemmas.Result.{err_from_is_err_and}
use Rattle.command_parts.proofs.UserFaults.{users_refused, users_admitted}
use Rattle.command_parts.proofs.user_systems.admitted.Goals as goal

pub returns-in_err-admitted : goal.returns-in_err-admitted
returns-in_err-admitted g c =
    let p = err_from_is_err_and c.from_residual.result c.from_residual.ensures.1 in
    rw (p.1, p.2) (users_refused c.args.limit c.args.names.now _ _ c.in_err-admitted.field-0.0 c.in_err-admitted.ensures)

pub returns : goal.returns
returns g c = users_admitted c.args.limit c.args.names.now _ _ c.in_ok-admitted.field-0 c.in_ok-admitted.ensures
