use Rattle.std.proofs.Common.{◌++◌, List, sym, ap, ◌∙◌}
use Rattle.std.proofs.lemmas.Fmt.{decimal_digit}
use Rattle.dfa_text.proofs.numbers.push_number.Goals as goal

pub returns-then-number-lt10 : goal.returns-then-number-lt10
returns-then-number-lt10 c = c.in_ok-push.ensures.items ∙ ap (λ (bytes : List _). c.args.out.now.items ++ bytes) (sym (decimal_digit c.args.number c.if-number-lt10.true))
