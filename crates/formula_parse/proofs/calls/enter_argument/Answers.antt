use Rattle.std.proofs.Common.{sym, subst, Option}
use Rattle.formula_parse.specs.StateViews.{Machine, context_view}
use Rattle.formula_parse.specs.Stops.{Gives}
use Rattle.formula_parse.proofs.OtherTokens.{enter_argument_other}
use Rattle.formula_parse.proofs.calls.enter_argument.Goals as goal

pub returns-in_default : goal.returns-in_default
returns-in_default c =
    subst
    (λ (o : Option Machine). Gives c.first_argument.result o)
    (sym (enter_argument_other (context_view c.args.context) c.args.name c.args.token c.in_default.not-Closing))
    c.first_argument.ensures
