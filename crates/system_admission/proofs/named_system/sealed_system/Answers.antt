use Rattle.std.proofs.Common.{sym, subst}
use Rattle.system_admission.specs.NameAdmissions.{SealsFiles}
use Rattle.system_admission.proofs.named_system.sealed_system.Goals as goal

pub returns : goal.returns
returns c =
    let IsSealedOf = SealsFiles c.args.direction c.args.files.now c.args.steps.now c.admit_named.new.steps in
    subst IsSealedOf (sym c.in_ok-shared.ensures.ok)
    (record {
      user = c.in_ok-admitted.admitted;
      admits = c.in_ok-admitted.ensures.steps;
      defined = c.in_ok-admitted.ensures.defined;
      sealed = c.is_sealed.ensures;
      system = c.in_ok-sealed.ensures.system;
      read_direction = c.in_ok-sealed.ensures.direction;
    })
