use Rattle.std.proofs.lemmas.Result.{err_from_is_err_and}
use Rattle.session_cli.proofs.AnsweringSteps.{long_refused, text_loaded, load_refused, exit_ends, exit_refused, quit_ends, quit_refused}
use Rattle.session_cli.proofs.answering.AnswererAnswering.answer.Goals as goal

pub returns-then-command-gt-COMMAND_LIMIT-clause-command : goal.returns-then-command-gt-COMMAND_LIMIT-clause-command
returns-then-command-gt-COMMAND_LIMIT-clause-command g c = rw c.from.ensures (λ ledger stores.
    long_refused c.args.self.now.session.limit c.args.self.now.stop c.args.command.now.depth ledger _ c.args.command.now.text.now c.args.command.now.shown c.if-command-gt-COMMAND_LIMIT.true)

pub returns-in_err-text-in-Some-Load-clause-command : goal.returns-in_err-text-in-Some-Load-clause-command
returns-in_err-text-in-Some-Load-clause-command g c = λ ledger stores.
    let p = err_from_is_err_and c.from_residual.result c.from_residual.ensures.1 in
    rw (p.1, p.2)
    (load_refused c.args.self.now.session.limit c.args.self.now.stop c.args.command.now.depth c.args.command.now.text.now c.if-command-gt-COMMAND_LIMIT.false ledger _ _ c.args.command.now.shown c.in_err-text-in-Some-Load.field-0.0
    (rw c.in-Some-Load.field-0-is at c.in-Some-Load.ensures) stores c.in_err-text-in-Some-Load.ensures.loaded)

pub returns-in_ok-text-in-Some-Load-clause-command : goal.returns-in_ok-text-in-Some-Load-clause-command
returns-in_ok-text-in-Some-Load-clause-command g c = λ ledger stores.
    text_loaded c.args.self.now.session.limit c.args.self.now.stop c.args.command.now.depth c.args.command.now.text.now c.if-command-gt-COMMAND_LIMIT.false ledger _ _ c.args.command.now.shown c.in_ok-text-in-Some-Load.text
    (rw c.in-Some-Load.field-0-is at c.in-Some-Load.ensures) stores c.in_ok-text-in-Some-Load.ensures.loaded

pub returns-in_err-alone-in-Some-Exit-clause-command : goal.returns-in_err-alone-in-Some-Exit-clause-command
returns-in_err-alone-in-Some-Exit-clause-command g c = λ ledger stores.
    let p = err_from_is_err_and c.from_residual-in_err-alone-in-Some-Exit.result c.from_residual-in_err-alone-in-Some-Exit.ensures.1 in
    rw (p.1, p.2)
    (exit_refused c.args.self.now.session.limit c.args.self.now.stop c.args.command.now.depth c.args.command.now.text.now c.if-command-gt-COMMAND_LIMIT.false ledger _ c.args.command.now.shown c.in_err-alone-in-Some-Exit.field-0.0
    (rw c.in-Some-Exit.field-0-is at c.in-Some-Exit.ensures) stores c.in_err-alone-in-Some-Exit.ensures)

pub returns-in_ok-alone-in-Some-Exit-clause-command : goal.returns-in_ok-alone-in-Some-Exit-clause-command
returns-in_ok-alone-in-Some-Exit-clause-command g c = λ ledger stores.
    exit_ends c.args.self.now.session.limit c.args.self.now.stop c.args.command.now.depth c.args.command.now.text.now c.if-command-gt-COMMAND_LIMIT.false ledger _ c.args.command.now.shown
    (rw c.in-Some-Exit.field-0-is at c.in-Some-Exit.ensures) c.in_ok-alone-in-Some-Exit.ensures

pub returns-in_err-alone-in-Some-Quit-clause-command : goal.returns-in_err-alone-in-Some-Quit-clause-command
returns-in_err-alone-in-Some-Quit-clause-command g c = λ ledger stores.
    let p = err_from_is_err_and c.from_residual-in_err-alone-in-Some-Quit.result c.from_residual-in_err-alone-in-Some-Quit.ensures.1 in
    rw (p.1, p.2)
    (quit_refused c.args.self.now.session.limit c.args.self.now.stop c.args.command.now.depth c.args.command.now.text.now c.if-command-gt-COMMAND_LIMIT.false ledger _ c.args.command.now.shown c.in_err-alone-in-Some-Quit.field-0.0
    (rw c.in-Some-Quit.field-0-is at c.in-Some-Quit.ensures) stores c.in_err-alone-in-Some-Quit.ensures)

pub returns-in_ok-alone-in-Some-Quit-clause-command : goal.returns-in_ok-alone-in-Some-Quit-clause-command
returns-in_ok-alone-in-Some-Quit-clause-command g c = λ ledger stores.
    quit_ends c.args.self.now.session.limit c.args.self.now.stop c.args.command.now.depth c.args.command.now.text.now c.if-command-gt-COMMAND_LIMIT.false ledger _ c.args.command.now.shown
    (rw c.in-Some-Quit.field-0-is at c.in-Some-Quit.ensures) c.in_ok-alone-in-Some-Quit.ensures
