use Rattle.formula_parse.specs.Tokens.{less}
use Rattle.term_plans.specs.Makings.{track_view}
use Rattle.term_plans.specs.Plans.{compared}
use Rattle.term_plans.specs.Planning.{base_made, constant_made}
use Rattle.term_plans.proofs.MultiplesMade.{below_does, within_after}
use Rattle.term_plans.proofs.multiples.below.Goals as goal

pub link-requires-clause-relation : goal.link-requires-clause-relation
link-requires-clause-relation c =
    within_after c.args.planner.now c.constant.new.self c.compared.new.self c.in_ok-constant.constant c.in_ok-less.less
    (constant_made c.args.system.now c.args.divisor (track_view c.args.bound.now) c.args.planner.now.next)
    (base_made (compared c.args.system.now less (track_view c.args.rest.now) (track_view c.args.bound.now)) c.constant.new.self.next)
    c.in_ok-constant.ensures c.in_ok-less.ensures

pub returns : goal.returns
returns c =
    below_does c.args.planner.now c.constant.new.self c.compared.new.self c.link.new.self c.in_ok-constant.constant c.in_ok-less.less c.in_ok-linked.linked c.args.system.now c.args.divisor
    (track_view c.args.rest.now) (track_view c.args.bound.now) c.in_ok-constant.ensures c.in_ok-less.ensures c.in_ok-linked.ensures
