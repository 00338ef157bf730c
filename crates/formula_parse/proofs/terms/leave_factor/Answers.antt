use Rattle.std.proofs.Common.{sym, subst, Option}
use Rattle.formula_parse.specs.Trees.{factors}
use Rattle.formula_parse.specs.Views.{factor_view, factors_view, addends_view}
use Rattle.formula_parse.specs.StateViews.{Machine, outers_view, role_view, product_view, context_view}
use Rattle.formula_parse.specs.Stops.{Gives}
use Rattle.formula_parse.proofs.OtherTokens.{leave_factor_other}
use Rattle.formula_parse.proofs.terms.leave_factor.Goals as goal

pub returns-in_default : goal.returns-in_default
returns-in_default c =
    let r = c.args.reading in
    subst
    (λ (o : Option Machine). Gives c.leave_sum.result o)
    (sym (leave_factor_other (context_view c.args.context) (role_view r.nest.role) (outers_view r.nest.outer.items) (addends_view r.sum.addends.items) (factors (factors_view r.sum.factors.items) (factor_view c.args.read.factor)) (product_view r.sum.product) c.args.read.numeral c.args.token c.in_default.not-Times c.in_default.not-Slash c.in_default.not-Sign))
    c.leave_sum.ensures
