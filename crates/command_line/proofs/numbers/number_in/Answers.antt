use Rattle.std.proofs.Common.{◌≡◌, ◌∙◌, ap, sym, decimal}
use Rattle.command_line.proofs.OneOptions.{not_read, number_read, equal_texts}
use Rattle.command_line.proofs.numbers.number_in.Goals as goal

pub returns-in_default : goal.returns-in_default
returns-in_default c = not_read c.args.text.now c.in_default.field-0 c.in_default.ensures.value.0

pub returns-else-eq : goal.returns-else-eq
returns-else-eq c = λ number small is.
    let same : c.in-Ok.number ≡ number = number_read c.args.text.now c.in-Ok.number c.parse.result c.in-Ok.is c.parse.ensures.value.0 number small is in
    equal_texts _ _ (c.format.ensures.text ∙ (ap decimal same ∙ sym is)) c.if-eq.ensures
