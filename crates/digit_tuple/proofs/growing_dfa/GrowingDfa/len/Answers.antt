use Rattle.std.proofs.Common.{arith}
use Rattle.digit_tuple.proofs.KeptLemmas.{kept-count}
use Rattle.digit_tuple.proofs.growing_dfa.GrowingDfa.len.Goals as goal

pub returns : goal.returns
returns c =
    let count = kept-count c.self.inside.flags.items c.self.inside.table c.args.self.now c.self.invariant c.self.view_is in
    omega (arith, count, c.len.ensures, c.self.inside.flags.ok, c.self.invariant)
