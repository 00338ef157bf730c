use Rattle.term_plans.specs.Makings.{track_view}
use Rattle.term_plans.proofs.MultiplesMade.{no_times_does, within_after}
use Rattle.term_plans.proofs.multiples.no_multiple.Goals as goal

pub returns : goal.returns
returns c =
    no_times_does c.args.planner.now c.constant.new.self c.any_number.new.self c.make.new.self c.in_ok-zero.zero c.in_ok-any.any c.in_ok-both.both
    c.args.scale.system.now (track_view c.args.scale.value.now) (track_view c.args.scale.product.now) c.in_ok-zero.ensures c.in_ok-any.ensures c.in_ok-both.ensures

pub make-requires : goal.make-requires
make-requires c = (within_after c.args.planner.now c.constant.new.self c.any_number.new.self c.in_ok-zero.zero c.in_ok-any.any _ _ c.in_ok-zero.ensures c.in_ok-any.ensures, c.in_ok-any.ensures.last.within)
