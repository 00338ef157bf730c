use Rattle.std.proofs.lemmas.Result.{err_from_is_err_and}
use Rattle.word_commands.proofs.word_text.word_made.Goals as goal

pub returns-in_err-stored : goal.returns-in_err-stored
returns-in_err-stored c =
    let p = err_from_is_err_and c.from_residual.result c.from_residual.ensures.1 in
    rw (p.1, p.2) c.in_err-stored.ensures

pub returns-in_err-printed : goal.returns-in_err-printed
returns-in_err-printed c =
    let p = err_from_is_err_and c.from_residual-in_err-printed.result c.from_residual-in_err-printed.ensures.1 in
    rw (p.1, p.2) tt

pub returns : goal.returns
returns c = record { text = c.in_ok-stored.ensures; printed = c.in_ok-printed.ensures }
