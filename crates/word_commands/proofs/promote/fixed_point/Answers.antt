use Rattle.std.proofs.Common.{Ok, Err, subst}
use Rattle.std.proofs.lemmas.Result.{err_from_is_err_and}
use Rattle.digit_tuple.specs.Steps.{StepLog}
use Rattle.fixed_points.specs.Promotion.{DoesPromote}
use Rattle.command_parts.specs.MorphismFaults.{fault_of_promotion}
use Rattle.system_admission.specs.SystemSteps.{no_steps}
use Rattle.word_commands.proofs.BaseTexts.{over_base}
use Rattle.word_commands.proofs.PromoteSteps.{not_promoted, promotion_refused, fixed_refused, fixed_made}
use Rattle.word_commands.proofs.promote.fixed_point.Goals as goal

pub returns-in_err-word : goal.returns-in_err-word
returns-in_err-word c =
    let p = err_from_is_err_and c.from_residual.result c.from_residual.ensures.1 in
    let fault = c.in_err-word.field-0.0 in
    let limit = c.args.options.limit in
    let rules = c.args.morphism.now in
    let refused : DoesPromote rules (no_steps limit) (Err fault) c.promote.new.steps = subst (λ (log : StepLog). DoesPromote rules log (Err fault) c.promote.new.steps) c.new_steps-steps.ensures c.in_err-word.ensures in
    rw (p.1, p.2) (λ custom name. promotion_refused limit custom name rules (fault_of_promotion fault) (not_promoted limit rules fault c.promote.new.steps refused))

pub base_text-requires : goal.base_text-requires
base_text-requires c =
    let limit = c.args.options.limit in
    let rules = c.args.morphism.now in
    let word = c.in_ok-word.word in
    let done : DoesPromote rules (no_steps limit) (Ok word) c.promote.new.steps = subst (λ (log : StepLog). DoesPromote rules log (Ok word) c.promote.new.steps) c.new_steps-steps.ensures c.in_ok-word.ensures in
    (done.0, over_base rules done.0 word done.1 done.2.step.made_is)

pub returns-in_err-stored : goal.returns-in_err-stored
returns-in_err-stored c =
    let p = err_from_is_err_and c.from_residual-in_err-stored.result c.from_residual-in_err-stored.ensures.1 in
    let fault = c.in_err-stored.field-0.0 in
    let limit = c.args.options.limit in
    let rules = c.args.morphism.now in
    let word = c.in_ok-word.word in
    let done : DoesPromote rules (no_steps limit) (Ok word) c.promote.new.steps = subst (λ (log : StepLog). DoesPromote rules log (Ok word) c.promote.new.steps) c.new_steps-steps.ensures c.in_ok-word.ensures in
    rw (p.1, p.2) (λ custom name. fixed_refused limit custom name rules word c.promote.new.steps done c.letters_fit.ensures fault (c.in_err-stored.ensures done.0 (over_base rules done.0 word done.1 done.2.step.made_is)))

pub returns-in_err-printed : goal.returns-in_err-printed
returns-in_err-printed c =
    let p = err_from_is_err_and c.from_residual-in_err-printed.result c.from_residual-in_err-printed.ensures.1 in
    rw (p.1, p.2) (λ custom name. tt)

pub returns : goal.returns
returns c =
    let limit = c.args.options.limit in
    let rules = c.args.morphism.now in
    let word = c.in_ok-word.word in
    let done : DoesPromote rules (no_steps limit) (Ok word) c.promote.new.steps = subst (λ (log : StepLog). DoesPromote rules log (Ok word) c.promote.new.steps) c.new_steps-steps.ensures c.in_ok-word.ensures in
    λ custom name. fixed_made limit custom name rules word c.promote.new.steps done c.letters_fit.ensures c.args.options.shown _ (c.in_ok-stored.ensures done.0 (over_base rules done.0 word done.1 done.2.step.made_is))
    c.in_ok-printed.ensures
