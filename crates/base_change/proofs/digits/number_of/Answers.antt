use Rattle.std.proofs.Common.{arith}
use Rattle.base_change.proofs.StepLemmas.{step-fits}
use Rattle.base_change.proofs.digits.number_of.Goals as goal

pub overflow_mul-number : goal.overflow_mul-number
overflow_mul-number c =
    omega (arith, step-fits c.args.root c.loop-place.place c.loop-place.number c.args.digits.now c.requires.digits c.requires.few c.loop-place-test.true c.loop-place.invariant.inside c.loop-place.invariant.number)

pub overflow_add-number : goal.overflow_add-number
overflow_add-number c =
    omega (arith, step-fits c.args.root c.loop-place.place c.loop-place.number c.args.digits.now c.requires.digits c.requires.few c.loop-place-test.true c.loop-place.invariant.inside c.loop-place.invariant.number)
