use Rattle.std.proofs.Common.{sym, ap, subst, refl, Err}
use Rattle.formula_parse.specs.Tokens as tokens
use Rattle.formula_parse.specs.StateViews.{state_view}
use Rattle.formula_parse.specs.LexemeViews.{lexed_view}
use Rattle.formula_parse.specs.Advances.{Advances}
use Rattle.formula_parse.proofs.parser.read_spot.Goals as goal

pub returns-in-Token : goal.returns-in-Token
returns-in-Token c =
    subst
    (λ (t : tokens.Token). Advances (state_view c.args.state) t c.args.spot.at c.advance.result)
    (sym (ap lexed_view c.in-Token.is))
    c.advance.ensures

pub returns-in-Big : goal.returns-in-Big
returns-in-Big c =
    subst
    (λ (t : tokens.Token). Advances (state_view c.args.state) t c.args.spot.at (Err c.big_fault-fault.result))
    (sym (ap lexed_view c.in-Big.is))
    (c.big_fault-fault.ensures (state_view c.args.state) refl)
