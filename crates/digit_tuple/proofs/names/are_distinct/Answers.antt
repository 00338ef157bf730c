use Rattle.std.proofs.Common.{refl, length-take, arith}
use Rattle.digit_tuple.proofs.names.are_distinct.Goals as goal

pub slice_bounds-find_name-end : goal.slice_bounds-find_name-end
slice_bounds-find_name-end c = omega (arith, c.loop-place-test.true, length-take c.loop-place.place c.args.names.now)

pub bounds-names-place : goal.bounds-names-place
bounds-names-place c = omega (arith, c.loop-place-test.true)

pub returns : goal.returns
returns c = (λ yes i j d before within. c.loop-place.invariant i j d before (omega (arith, c.loop-place-test.false, within)), λ distinct. refl)
