use Rattle.std.proofs.Common.{Some, refl}
use Rattle.term_plans.specs.TermPlanning.{scaling_view}
use Rattle.term_plans.specs.declared.track.Track.TheVariants.{Fresh}
use Rattle.term_plans.proofs.MultiplesMade.{scaled_does}
use Rattle.term_plans.proofs.multiples.scaled.Goals as goal

pub returns : goal.returns
returns c =
    scaled_does c.args.planner.now c.fresh.new.self c.make_scaled.new.planner c.close.new.self c.args.value.now (record { track = Fresh c.in_ok-fresh.field-0; relation = Some c.in_ok-closed.closed })
    c.in_ok-made.made c.in_ok-closed.closed c.in_ok-fresh.field-0 c.args.system.now (scaling_view c.args.factor)
    c.requires c.in_ok-fresh.ensures.0 c.in_ok-fresh.ensures.1 c.in_ok-fresh.ensures.2
    c.in_ok-made.ensures c.in_ok-closed.ensures c.in_ok-closed.ensures.last.within refl
