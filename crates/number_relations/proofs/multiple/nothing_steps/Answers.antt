use Rattle.std.proofs.Common.{inl, inr, refl}
use Rattle.digit_tuple.specs.declared.step_fault.StepFault.TheVariants.{Memory}
use Rattle.num_system.proofs.LineLemmas.{handed_on}
use Rattle.number_relations.specs.Multiples.{DoesMultiple}
use Rattle.number_relations.proofs.multiple.nothing_steps.Goals as goal

pub returns-in_err-any : goal.returns-in_err-any
returns-in_err-any c =
    let new = c.constant_step.new.steps in
    handed_on (λ r. DoesMultiple c.args.system.now.value 0 c.args.number.now c.args.multiple.now c.args.multiple.now c.args.steps.now r new) c.from_residual-in_err-any.result Memory c.from_residual-in_err-any.ensures.1
    (inl (c.in_ok-zero.zero, new, c.in_ok-zero.ensures, inl refl))

pub returns : goal.returns
returns c = inl (c.in_ok-zero.zero, c.constant_step.new.steps, c.in_ok-zero.ensures, inr (c.in_ok-any.any, c.in_ok-any.ensures, c.join_step.ensures))
