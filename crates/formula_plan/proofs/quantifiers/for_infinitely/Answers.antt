use Rattle.std.proofs.Common.{subst}
use Rattle.formula_parse.specs.Tokens.{less}
use Rattle.term_plans.specs.Tracks.{own, fresh}
use Rattle.term_plans.specs.Plans.{compared}
use Rattle.formula_plan.specs.FormulaPlans.{for_infinitely}
use Rattle.term_plans.specs.Makings.{plan_at}
use Rattle.term_plans.specs.Planning.{Does, base_made}
use Rattle.formula_plan.proofs.FormulasMade.{infinitely_does, still_within}
use Rattle.formula_plan.proofs.quantifiers.for_infinitely.Goals as goal

pub link-requires-clause-relation : goal.link-requires-clause-relation
link-requires-clause-relation c =
    still_within c.args.planner.now c.fresh.new.self c.compared.new.self c.args.place c.in_ok-less.less (base_made (compared c.args.system.now less (fresh c.in_ok-fresh.field-0) (own c.in_ok-copy.field-0)) c.fresh.new.self.next)
    c.in_ok-fresh.ensures.2 c.requires c.in_ok-less.ensures

pub returns : goal.returns
returns c =
    subst (λ n. Does c.args.planner.now c.complement-2.new.planner c.in_ok-unbounded.unbounded (for_infinitely c.args.system.now n (base_made (plan_at c.args.planner.now.plans c.args.place) c.args.planner.now.next))) c.in_ok-copy.ensures
    (infinitely_does c.args.planner.now c.fresh.new.self c.compared.new.self c.link.new.self c.complement.new.planner c.make.new.self c.complement-2.new.planner
    c.args.place c.in_ok-less.less c.in_ok-above.above c.in_ok-none_above.none_above c.in_ok-bounded.bounded c.in_ok-unbounded.unbounded c.in_ok-fresh.field-0 c.args.system.now c.in_ok-copy.field-0 c.requires
    c.in_ok-fresh.ensures.0 c.in_ok-fresh.ensures.1 c.in_ok-fresh.ensures.2 c.in_ok-less.ensures c.in_ok-above.ensures c.in_ok-none_above.ensures c.in_ok-bounded.ensures c.in_ok-unbounded.ensures)
