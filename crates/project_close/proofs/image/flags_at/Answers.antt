use Rattle.std.proofs.Common.{◌≡◌, length, subst, arith}
use Rattle.project_close.specs.Image.{AreFlagsAt}
use Rattle.project_close.proofs.FlagLemmas.{AreFlagsAt-more}
use Rattle.project_close.proofs.image.flags_at.Goals as goal

pub loop-place-preserved : goal.loop-place-preserved
loop-place-preserved c = AreFlagsAt-more c.args.count c.loop-place.flags.items c.args.places.now c.loop-place.place-index (c.requires c.loop-place.place-index 0 c.loop-place-test.true) c.loop-place.invariant

pub returns : goal.returns
returns c =
    let all : c.loop-place.place-index ≡ length c.args.places.now = omega arith in
    subst (AreFlagsAt c.args.count c.loop-place.flags.items c.args.places.now) all c.loop-place.invariant
