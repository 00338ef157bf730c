use Rattle.std.proofs.Common.{rules, subst, arith}
use Rattle.std.specs.List.{All}
use Rattle.std.proofs.lemmas.List.{take_all}
use Rattle.std.proofs.lemmas.List.Elements.{All-more}
use Rattle.named_systems.specs.TrackSystems.{IsIn}
use Rattle.named_systems.proofs.track_systems.other_direction.Goals as goal

pub loop-place-preserved : goal.loop-place-preserved
loop-place-preserved c =
    All-more (IsIn c.args.direction) c.args.systems.now c.loop-place.place c.index-systems-place.result c.loop-place-test.true c.loop-place.invariant (subst (IsIn c.args.direction) c.index-systems-place.is (search rules))

pub returns : goal.returns
returns c = subst (All (IsIn c.args.direction)) (take_all c.loop-place.place c.args.systems.now (omega (arith, c.loop-place-test.false))) c.loop-place.invariant
