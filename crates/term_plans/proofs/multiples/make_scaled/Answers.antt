use Rattle.term_plans.specs.Makings.{track_view}
use Rattle.term_plans.proofs.MultiplesMade.{times_answers, over_answers}
use Rattle.term_plans.proofs.multiples.make_scaled.Goals as goal

pub returns-in-Times : goal.returns-in-Times
returns-in-Times c =
    times_answers c.multiple.result c.args.planner.now c.multiple.new.planner c.args.scale.system.now c.args.scaling c.in-Times.times (track_view c.args.scale.value.now) (track_view c.args.scale.product.now) c.in-Times.is c.multiple.ensures

pub returns-in-Over : goal.returns-in-Over
returns-in-Over c =
    over_answers c.quotient.result c.args.planner.now c.quotient.new.planner c.args.scale.system.now c.args.scaling c.in-Over.divisor (track_view c.args.scale.value.now) (track_view c.args.scale.product.now) c.in-Over.is c.quotient.ensures
