use Rattle.std.proofs.Common.{Ok, refl, sym, subst}
use Rattle.std.proofs.lemmas.Result.{err_from_is_err_and}
use Rattle.command_head.specs.HeadViews.{head_view}
use Rattle.system_files.specs.SystemFiles.{Custom}
use Rattle.command_parts.specs.Checks.{Fails}
use Rattle.command_parts.specs.FileChanges.{Makes}
use Rattle.language_commands.specs.RegOutcomes.{after_head}
use Rattle.language_commands.proofs.RegSteps.{reg_broken, reg_changed, reg_failed}
use Rattle.command_parts.proofs.HeadSteps.{own_head}
use Rattle.command_parts.proofs.TextReads.{texts_none, texts_read, texts_refused}
use Rattle.language_commands.proofs.reg.reg_change.Goals as goal

pub returns-in_err-head : goal.returns-in_err-head
returns-in_err-head g c =
    let p = err_from_is_err_and c.from_residual.result c.from_residual.ensures.1 in
    let fault = c.in_err-head.field-0.0 in
    rw (p.1, p.2) (texts_none _ _ _ (own_head fault) (λ custom ledger same. reg_broken c.args.options.limit ledger c.args.text.now fault c.requires c.in_err-head.ensures.read))

pub returns-in-Ok : goal.returns-in-Ok
returns-in-Ok g c =
    let head = head_view c.in_ok-head.head in
    texts_read _ _ _ _ _ _ tt c.in-Ok.ensures
    (λ custom makes ledger same. reg_changed c.args.options.limit ledger c.args.text.now c.args.options.shown head _ c.in_ok-head.ensures.read refl refl
    (subst (λ (k : Custom). Makes k (after_head c.args.options.limit k head) c.args.options.shown (Ok c.in-Ok.made)) (sym same) (makes c.in_ok-head.head.name)))

pub returns-in-Err : goal.returns-in-Err
returns-in-Err g c =
    let head = head_view c.in_ok-head.head in
    texts_refused _ _ _ _ c.in-Err.fault c.in-Err.ensures
    (λ custom refused ledger same. reg_failed c.args.options.limit ledger c.args.text.now c.args.options.shown head c.in-Err.fault c.in_ok-head.ensures.read
    (subst (λ (k : Custom). Fails (after_head c.args.options.limit k head) c.in-Err.fault) (sym same) (refused c.in_ok-head.head.name)))
