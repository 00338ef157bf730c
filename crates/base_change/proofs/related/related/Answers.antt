use Rattle.std.proofs.Common.{arith}
use Rattle.base_change.proofs.RootLemmas.{root-least, root-most}
use Rattle.base_change.proofs.related.related.Goals as goal

pub loop-root-init : goal.loop-root-init
loop-root-init c r b a less old new = omega (arith, less, root-least r b c.args.old (omega arith) old)

pub returns : goal.returns
returns c r b a old new = c.loop-root.invariant r b a (omega (arith, root-most r b c.args.old (omega arith) old, c.loop-root-test.false)) old new
