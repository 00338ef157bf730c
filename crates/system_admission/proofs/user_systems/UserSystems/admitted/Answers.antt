use Rattle.std.proofs.Common.{subst, arith, ◌∙◌}
use Rattle.std.proofs.lemmas.Result.{err_from_is_err_and}
use Rattle.system_names.specs.Names.{IsBuiltInName}
use Rattle.system_admission.proofs.UserSteps.{none_so_far, built_in_so_far, admitted_so_far, refused_so_far, all_so_far, something, nothing}
use Rattle.system_admission.proofs.user_systems.UserSystems.admitted.Goals as goal
use Rattle.system_admission.proofs.user_systems.UserSystems.admitted.Goals.{then-is_none+in_ok-admit, else-is_none}

pub loop-name-init : goal.loop-name-init
loop-name-init g c = none_so_far c.args.limit _ _ c.new.ensures c.new-2.ensures (c.show_on.ensures ∙ c.new-3.ensures)

pub admit-requires : goal.admit-requires
admit-requires g c = subst (λ n. ¬ IsBuiltInName n) c.as_bytes.ensures (nothing _ _ c.built_in.result c.is_none.result c.built_in.ensures c.is_none.ensures c.if-is_none.true)

pub returns-in_err-admit : goal.returns-in_err-admit
returns-in_err-admit g c =
    let p = err_from_is_err_and c.from_residual.result c.from_residual.ensures.1 in
    rw (p.1, p.2) (refused_so_far c.args.limit c.args.names.now c.loop-name.name-index c.name-item.result c.loop-name-test.true c.name-item.is c.loop-name.users c.admit.new.self _ _ _ c.in_err-admit.field-0.0 c.loop-name.invariant c.in_err-admit.ensures)

pub loop-name-preserved : goal.loop-name-preserved
loop-name-preserved g c =
    let limit = c.args.limit in
    let names = c.args.names.now in
    let i = c.loop-name.name-index in
    let name = c.name-item.result in
    elim c.if-is_none.branch [
      | then-is_none+in_ok-admit w ↦
          rw (w.users-is, w.store-is) (admitted_so_far limit names i name c.loop-name-test.true c.name-item.is c.loop-name.users w.admit.new.self _ _ _ c.loop-name.invariant w.in_ok-admit.ensures)
      | else-is_none w ↦
          let found = something _ _ c.built_in.result c.is_none.result c.built_in.ensures c.is_none.ensures w.if-is_none.false in
          rw (w.users-is, w.store-is) (built_in_so_far limit names i name c.loop-name-test.true c.name-item.is c.loop-name.users _ _ c.loop-name.invariant (subst IsBuiltInName c.as_bytes.ensures (found.0.direction, found.0.kind, found.1)))
    ]

pub returns : goal.returns
returns g c = all_so_far c.args.limit c.args.names.now c.loop-name.name-index c.loop-name.users _ _ (omega (arith, c.loop-name-test.false)) c.loop-name.invariant
