use Rattle.term_plans.proofs.PlanningLemmas.{link_answers}
use Rattle.term_plans.proofs.planner.Planner.link.Goals as goal

pub make-requires : goal.make-requires
make-requires c = (c.requires.relation, c.requires.base)

pub make-requires-2 : goal.make-requires-2
make-requires-2 c = c.in_ok-joined.ensures.last.within

pub returns : goal.returns
returns c =
    link_answers c.make-2.result c.args.self.now c.make.new.self c.make-2.new.self c.in_ok-joined.joined c.args.relation c.args.base c.in_ok-track.track c.args.track.now c.in_ok-track.ensures c.in_ok-joined.ensures c.make-2.ensures
