use Rattle.std.proofs.Common.{refl}
use Rattle.std.proofs.lemmas.Result.{err_from_is_err_and}
use Rattle.command_head.specs.HeadViews.{named_view}
use Rattle.formula_commands.proofs.FormulaChains.{named_broken, named_changed, named_failed}
use Rattle.command_parts.proofs.HeadSteps.{own_head}
use Rattle.command_parts.proofs.StoreReads.{from_none, from_read, from_refused}
use Rattle.formula_commands.proofs.formula.formula_change.Goals as goal

pub returns-in_err-head : goal.returns-in_err-head
returns-in_err-head g c =
    let p = err_from_is_err_and c.from_residual.result c.from_residual.ensures.1 in
    let fault = c.in_err-head.field-0.0 in
    rw (p.1, p.2) (from_none _ _ _ (own_head fault) (λ found ledger stores. named_broken c.args.command.word.now c.args.command.folder c.args.command.options.limit ledger c.args.text.now fault c.in_err-head.ensures))

pub returns-in-Ok : goal.returns-in-Ok
returns-in-Ok g c =
    from_read _ _ _ _ _ _ tt c.in-Ok.ensures
    (λ found makes ledger stores. named_changed c.args.command.word.now c.args.command.folder c.args.command.options.limit ledger c.args.text.now c.args.command.options.shown (named_view c.in_ok-head.head) _ c.in_ok-head.ensures refl refl
    (makes ledger c.args.command.folder c.in_ok-head.head.name stores))

pub returns-in-Err : goal.returns-in-Err
returns-in-Err g c =
    from_refused _ _ _ _ c.in-Err.fault c.in-Err.ensures
    (λ found refused ledger stores. named_failed c.args.command.word.now c.args.command.folder c.args.command.options.limit ledger c.args.text.now c.args.command.options.shown (named_view c.in_ok-head.head) c.in-Err.fault c.in_ok-head.ensures
    (refused ledger c.args.command.folder c.in_ok-head.head.name stores))
