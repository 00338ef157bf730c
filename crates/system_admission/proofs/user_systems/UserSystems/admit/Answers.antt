use Rattle.std.proofs.lemmas.Result.{err_from_is_err_and}
use Rattle.system_admission.proofs.UserSteps.{user_refused, user_unkept, user_added}
use Rattle.system_admission.proofs.user_systems.UserSystems.admit.Goals as goal

pub returns-in_err-system : goal.returns-in_err-system
returns-in_err-system g c =
    let p = err_from_is_err_and c.from_residual.result c.from_residual.ensures.1 in
    rw (p.1, p.2) (user_refused c.args.name.now c.args.self.now _ _ _ c.in_err-system.field-0.0 c.in_err-system.ensures.gives c.in_err-system.ensures.found c.are_in_some_folder.ensures c.in_err-system.ensures.read)

pub returns-in_err-add : goal.returns-in_err-add
returns-in_err-add g c =
    let p = err_from_is_err_and c.from_residual-in_err-add.result c.from_residual-in_err-add.ensures.1 in
    rw (p.1, p.2) (user_unkept c.args.name.now c.args.self.now _ _ _ c.in_ok-system.field-0.value c.in_ok-system.ensures.found c.are_in_some_folder.ensures c.in_ok-system.ensures.read)

pub returns : goal.returns
returns g c =
    user_added c.args.name.now c.args.self.now _ _ _ c.in_ok-system.field-0.value c.in_ok-system.ensures.gives c.in_ok-add.ensures.ok c.in_ok-system.ensures.found c.are_in_some_folder.ensures c.in_ok-system.ensures.read
