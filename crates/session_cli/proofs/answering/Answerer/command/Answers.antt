use Rattle.std.proofs.lemmas.Result.{err_from_is_err_and}
use Rattle.session_cli.proofs.AnsweringSteps.{command_enters, command_refused}
use Rattle.session_cli.proofs.answering.Answerer.command.Goals as goal

pub returns-in_err-printed-clause-command : goal.returns-in_err-printed-clause-command
returns-in_err-printed-clause-command g c = λ ledger stores.
    let p = err_from_is_err_and c.from_residual.result c.from_residual.ensures.1 in
    rw (p.1, p.2)
    (command_refused c.args.self.now.session.limit c.args.self.now.stop c.args.command.now.depth c.args.command.now.text.now c.requires.short c.requires.other ledger _ _ c.args.command.now.shown c.in_err-printed.field-0.0
    (c.in_err-printed.ensures.command ledger stores))

pub returns-clause-command : goal.returns-clause-command
returns-clause-command g c = λ ledger stores.
    command_enters c.args.self.now.session.limit c.args.self.now.stop c.args.command.now.depth c.args.command.now.text.now c.requires.short c.requires.other ledger _ _ c.args.command.now.shown _ c.into_bytes.result c.into_bytes.ensures
    (c.in_ok-printed.ensures.command ledger stores)
