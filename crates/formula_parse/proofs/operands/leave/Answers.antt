use Rattle.std.proofs.Common.{◌∙◌, ap, subst, Option}
use Rattle.formula_parse.specs.Trees as trees
use Rattle.formula_parse.specs.Made.{trees as making}
use Rattle.formula_parse.specs.Machine as machine
use Rattle.formula_parse.specs.StateViews.{Machine, token_view, prefix_view, context_view}
use Rattle.formula_parse.specs.Stops.{Gives}
use Rattle.formula_parse.proofs.Words.{leave_based}
use Rattle.formula_parse.proofs.operands.leave.Goals as goal

pub returns : goal.returns
returns c =
    let s = context_view c.args.context in
    let r = prefix_view c.args.context.body.prefix in
    let t = token_view c.args.token in
    subst
    (λ (o : Option Machine). Gives c.leave_closed.result o)
    (ap
    (λ (z : trees.Formula). machine.leave_closed making (record s { body = machine.fresh making c.args.context.body.prefix.base }) r z t)
    c.in_ok-closed.ensures
    ∙ leave_based making s r _ t)
    c.leave_closed.ensures
