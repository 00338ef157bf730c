use Rattle.std.proofs.Common.{sym, ap, subst, List, Option, arith}
use Rattle.formula_parse.specs.Made.{made, trees as making}
use Rattle.formula_parse.specs.Machine as machine
use Rattle.formula_parse.specs.Views.{term_view}
use Rattle.formula_parse.specs.StateViews.{Machine, token_view, outer_view, role_view, context_view}
use Rattle.formula_parse.specs.Stops.{Gives}
use Rattle.formula_parse.proofs.Innermost.{innermost_taken, innermost_none}
use Rattle.formula_parse.proofs.terms.leave_term.Goals as goal

pub returns-in-None : goal.returns-in-None
returns-in-None c =
    subst (λ (o : Option Machine). Gives c.leave_whole.result o)
    (ap (λ (os : List (machine.Outer made)). machine.leave_product making (context_view c.args.context) (role_view c.args.nest.role) os (term_view c.args.read.term) c.args.read.numeral (token_view c.args.token))
    (sym (innermost_none outer_view c.args.nest.outer.items (omega (arith, c.in-None.ensures.cases.0, c.args.nest.outer.ok)))))
    c.leave_whole.ensures

pub returns-in-Some : goal.returns-in-Some
returns-in-Some c =
    subst (λ (o : Option Machine). Gives c.leave_parens.result o)
    (ap (λ (os : List (machine.Outer made)). machine.leave_product making (context_view c.args.context) (role_view c.args.nest.role) os (term_view c.args.read.term) c.args.read.numeral (token_view c.args.token))
    (sym (innermost_taken outer_view c.args.nest.outer.items c.pop.new.self.items c.pop.result c.in-Some.sum c.pop.ensures.items c.in-Some.is)))
    c.leave_parens.ensures
