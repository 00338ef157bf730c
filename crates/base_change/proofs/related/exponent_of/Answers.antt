use Rattle.std.proofs.Common.{arith}
use Rattle.base_change.proofs.RootLemmas.{no_exponent}
use Rattle.base_change.proofs.related.exponent_of.Goals as goal

pub returns-else-power-number : goal.returns-else-power-number
returns-else-power-number c =
    no_exponent c.args.root c.args.number c.loop-power.exponent (omega arith) c.loop-power.invariant.below
    (omega (arith, c.loop-power.invariant.is, c.loop-power-test.false, c.if-power-number.false))
