use Rattle.std.proofs.Common.{sym, subst, Option}
use Rattle.formula_parse.specs.StateViews.{Machine, context_view}
use Rattle.formula_parse.specs.Stops.{Gives}
use Rattle.formula_parse.proofs.OtherTokens.{leave_first_other}
use Rattle.formula_parse.proofs.terms.leave_first.Goals as goal

pub returns-in_default : goal.returns-in_default
returns-in_default c =
    subst
    (λ (o : Option Machine). Gives c.leave_variable.result o)
    (sym (leave_first_other (context_view c.args.context) c.args.name c.args.token c.in_default.not-Bracket))
    c.leave_variable.ensures
